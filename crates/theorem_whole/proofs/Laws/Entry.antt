-- The entries of a table that was read, by its bytes: a body that is not refused states no more than its width's bits.
use mathlib.Core.Bool.{Bool, false, cond}
use mathlib.Core.List.{List}
use mathlib.Core.Logic.{⊎_elim}
use mathlib.Core.Path.{◌≡◌, refl, ◌∙◌, ap, ap₂}
use Prim.Native.Nat.{ℕ, zero, suc, ◌+◌, ◌*◌, ◌%◌, ◌≤◌, ◌<◌}
use native.Mathlib.Nat.{le_refl, zero-mul}
use native.Mathlib.Omega.{arith}
use lib.Dec.{eqb}
use Rattle.exact.specs.Amount.{none, some}
use Rattle.exact.specs.Sum.{total}
use Rattle.exact.proofs.Laws.Sum.{split, total_ext, total-zero}
use Rattle.bits.specs.Mask.{bit, parity}
use Rattle.bits.proofs.Laws.Bit.{bit-above, bit-of-zero}
use Rattle.form.specs.Form.{sign_at}
use Rattle.ties.specs.Ties.{held}
use Rattle.state.specs.Entry.{turn, row, tie, sign, turns_at, entry}
use Rattle.body_bytes.specs.Body.{mark_of, turn_of, row_of, tie_count, mask_of, body_fault}
use Rattle.body_bytes.proofs.Laws.Fine.{Fine, fine}
use Rattle.body_read.specs.Table.{ties_of, table_of}
use Rattle.body_read.proofs.Laws.Table.{phase-is, turn-beyond, row-beyond, turn_is, row_is, tie-is, side-is}
use Rattle.theorem_whole.specs.Text.{ties_hold, turns_of, entry_of}

-- a sum whose terms from n on are 0
short-total : (n k : ℕ) (f : ℕ → ℕ) → n ≤ k → ((v : ℕ) → n ≤ v → f v ≡ 0) → total k f ≡ total n f
unfolding total
short-total n zero f l h = let e : 0 ≡ n = omega arith in ap (λ (i : ℕ). total i f) e
short-total n (suc k) f l h =
    ⊎_elim (λ (q : n < suc k). omega (arith, short-total n k f (omega arith) h, h k (omega arith)))
    (λ (q : suc k ≤ n). let e : suc k ≡ n = omega arith in ap (λ (i : ℕ). total i f) e) (split n (suc k))

module _ (n : ℕ) (bs : List ℕ) (f : Fine n bs) (x : ℕ → ℕ) where
  -- ---- ties
  tie-sum : (j : ℕ) → j < tie_count n bs → parity (tie (table_of n bs) j) x ≡ total n (λ v. bit (mask_of n bs j) v * x v) % 2
  unfolding parity
  tie-sum j l =
      ap (λ (m : ℕ). total 64 (λ v. bit m v * x v) % 2) (tie-is n bs f j l)
      ∙ ap (λ (k : ℕ). k % 2)
      (short-total n 64 (λ v. bit (mask_of n bs j) v * x v) f.narrow
      (λ v q. ap (λ (b : ℕ). b * x v) (bit-above n (mask_of n bs j) v (f.mask j l) q) ∙ zero-mul (x v)))

  all_hold : (k : ℕ) → k ≤ tie_count n bs → held (table_of n bs).ties k x ≡ ties_hold n bs k x
  unfolding held ties_hold
  all_hold zero l = refl
  all_hold (suc k) l =
      ap₂ (λ (b c : Bool). cond b c false) (ap₂ eqb (tie-sum k l) (side-is n bs f k l)) (all_hold k (omega arith))

  -- ---- turns
  turn-sum : total 64 (λ v. turn (table_of n bs) v * x v) ≡ total n (λ v. turn_of bs v * x v)
  turn-sum =
      short-total n 64 (λ v. turn (table_of n bs) v * x v) f.narrow (λ v q. ap (λ (a : ℕ). a * x v) (turn-beyond n bs v q) ∙ zero-mul (x v))
      ∙ total_ext n _ _ (λ v l. ap (λ (a : ℕ). a * x v) (turn_is n bs f v l))

  pair-sum : total 64 (λ v. total v (λ u. sign (table_of n bs) u v * (x u * x v))) ≡ total n (λ v. total v (λ u. bit (row_of n bs v) u * (x u * x v)))
  unfolding sign_at
  pair-sum =
      short-total n 64 (λ v. total v (λ u. bit (row (table_of n bs) v) u * (x u * x v))) f.narrow
      (λ v q. total-zero v _ (λ u l. ap (λ (m : ℕ). bit m u * (x u * x v)) (row-beyond n bs v q) ∙ ap (λ (b : ℕ). b * (x u * x v)) (bit-of-zero u) ∙ zero-mul (x u * x v)))
      ∙ total_ext n _ _ (λ v l. ap (λ (m : ℕ). total v (λ u. bit m u * (x u * x v))) (row_is n bs f v l))

  turns-are : turns_at (table_of n bs) x ≡ turns_of n bs x
  unfolding turns_at turns_of
  turns-are =
      ap₂ (λ (a b : ℕ). ((table_of n bs).form.phase.0 + 2 * a + 4 * b) % 8) turn-sum pair-sum
      ∙ ap (λ (c : ℕ). (c + 2 * total n (λ v. turn_of bs v * x v) + 4 * total n (λ v. total v (λ u. bit (row_of n bs v) u * (x u * x v)))) % 8) (phase-is n bs)

  entry_read : entry (table_of n bs) x ≡ entry_of n bs x
  unfolding entry entry_of table_of ties_of
  entry_read =
      ap₂ (λ (b : Bool) (c : ℕ). cond (eqb (mark_of bs) 1) none (cond b (some (table_of n bs).power.0 c) none)) (all_hold (tie_count n bs) (le_refl (tie_count n bs))) turns-are

-- the table that a body states has the entries that its bytes state, at every assignment
pub bytes-to-entry : (n : ℕ) (bs : List ℕ) → body_fault n bs ≡ false → (x : ℕ → ℕ) → entry (table_of n bs) x ≡ entry_of n bs x
bytes-to-entry n bs h x = entry_read n bs (fine n bs h) x

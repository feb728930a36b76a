-- A packed table's numbers: those of live slot i at slot i, and nothing from n on.
use mathlib.Core.Logic.{⊎_elim}
use mathlib.Core.Path.{◌≡◌, refl, sym, ap, ◌∙◌}
use Prim.Native.Nat.{ℕ, ◌*◌, ◌^◌, ◌≤◌, ◌<◌}
use native.Mathlib.Omega.{arith}
use lib.Count.{ones}
use lib.ListN.{length, get_or-eq_default}
use Rattle.exact.proofs.Laws.Sum.{split, total-zero}
use Rattle.exact.specs.declared.Quarter.{Quarter}
use Rattle.bits.specs.Mask.{bit}
use Rattle.bits.proofs.Laws.Bit.{bit-of-zero}
use Rattle.form.specs.declared.Form.{Form}
use Rattle.form.specs.Form.{quarter, turn_at, row_at, sign_at}
use Rattle.form.proofs.Laws.Beyond.{turn-none, row-none}
use Rattle.ties.specs.declared.Ties.{Ties}
use Rattle.ties.specs.Ties.{mask_at, side_at}
use Rattle.fields.proofs.Laws.Listed.{length-listed, listed_at, listed-beyond}
use Rattle.body_pack.specs.Slot.{slot_at, packed_mask}
use Rattle.body_pack.specs.Packed.{packed_form, packed_ties}
use Rattle.body_pack.proofs.Laws.Slot.{rank-le, ones-rank, slot-none}
use Rattle.body_pack.proofs.Laws.Mask.{packed-bit, packed_above}

-- at most 64 slots are live
pub ones_small : (live : ℕ) → live < 2 ^ 64 → ones live ≤ 64
ones_small live h = omega (arith, ones-rank live h, rank-le live 64)

-- the packed empty mask is empty
pub packed_none : (live : ℕ) → packed_mask live 0 ≡ 0
unfolding packed_mask
packed_none live = total-zero (ones live) _ (λ i l. ap (λ (b : ℕ). b * 2 ^ i) (bit-of-zero (slot_at live i)) ∙ omega arith)

-- beyond the live slots there is none
pub slot-beyond : (live i : ℕ) → live < 2 ^ 64 → ones live ≤ i → slot_at live i ≡ 64
slot-beyond live i h l = slot-none live i (omega (arith, ones-rank live h))

module _ (live : ℕ) (f : Form) where
  pub turn_at_lem : (i : ℕ) → i < 64 → turn_at (packed_form live f) i ≡ turn_at f (slot_at live i)
  unfolding turn_at packed_form
  turn_at_lem i l = ap (λ (q : Quarter). q.0) (listed_at (quarter 0) 64 _ i l)

  pub row-at : (i : ℕ) → i < 64 → row_at (packed_form live f) i ≡ packed_mask live (row_at f (slot_at live i))
  unfolding row_at packed_form
  row-at i l = listed_at 0 64 _ i l

  pub turns-long : length (packed_form live f).turns ≡ 64
  unfolding packed_form
  turns-long = length-listed 64 _

  pub signs-long : length (packed_form live f).signs ≡ 64
  unfolding packed_form
  signs-long = length-listed 64 _

  module _ (h : live < 2 ^ 64) where
    pub turn-beyond : length f.turns ≡ 64 → (i : ℕ) → ones live ≤ i → turn_at (packed_form live f) i ≡ 0
    turn-beyond e i l =
        ⊎_elim
        (λ (q : i < 64). turn_at_lem i q ∙ ap (turn_at f) (slot-beyond live i h l) ∙ turn-none f e 64 (omega arith))
        (λ (q : 64 ≤ i). turn-none (packed_form live f) turns-long i q)
        (split i 64)

    pub row-beyond : length f.signs ≡ 64 → (i : ℕ) → ones live ≤ i → row_at (packed_form live f) i ≡ 0
    row-beyond e i l =
        ⊎_elim
        (λ (q : i < 64). row-at i q ∙ ap (λ (v : ℕ). packed_mask live (row_at f v)) (slot-beyond live i h l) ∙ ap (packed_mask live) (row-none f e 64 (omega arith)) ∙ packed_none live)
        (λ (q : 64 ≤ i). row-none (packed_form live f) signs-long i q)
        (split i 64)

    -- the sign of two slots is that of their live slots
    pub sign_at_lem : (i j : ℕ) → i < ones live → j < ones live → sign_at (packed_form live f) i j ≡ sign_at f (slot_at live i) (slot_at live j)
    unfolding sign_at
    sign_at_lem i j k l = ap (λ (m : ℕ). bit m i) (row-at j (omega (arith, ones_small live h))) ∙ packed-bit live (row_at f (slot_at live j)) i k

    -- and from n on there is none
    pub sign-out : length f.signs ≡ 64 → (i j : ℕ) → ones live ≤ i → sign_at (packed_form live f) i j ≡ 0
    unfolding sign_at
    sign-out e i j l =
        ⊎_elim
        (λ (q : j < 64). ap (λ (m : ℕ). bit m i) (row-at j q) ∙ packed_above live (row_at f (slot_at live j)) i l)
        (λ (q : 64 ≤ j). ap (λ (m : ℕ). bit m i) (row-none (packed_form live f) signs-long j q) ∙ bit-of-zero i)
        (split j 64)

    pub sign-beyond : length f.signs ≡ 64 → (i j : ℕ) → ones live ≤ j → sign_at (packed_form live f) i j ≡ 0
    unfolding sign_at
    sign-beyond e i j l = ap (λ (m : ℕ). bit m i) (row-beyond e j l) ∙ bit-of-zero i

module _ (live : ℕ) (t : Ties) (e : length t.masks ≡ 64) where
  pub mask_at_lem : (j : ℕ) → mask_at (packed_ties live t) j ≡ packed_mask live (mask_at t j)
  unfolding mask_at packed_ties
  mask_at_lem j =
      ⊎_elim
      (λ (q : j < 64). listed_at 0 64 _ j q)
      (λ (q : 64 ≤ j).
      listed-beyond 0 64 _ j q
      ∙ sym (packed_none live)
      ∙ ap (packed_mask live) (sym (get_or-eq_default t.masks 0 {n = j} (omega arith))))
      (split j 64)

  pub side-at : (j : ℕ) → side_at (packed_ties live t) j ≡ side_at t j
  unfolding side_at packed_ties
  side-at j = refl

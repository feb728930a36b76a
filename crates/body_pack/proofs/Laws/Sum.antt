-- Sums over packed slots are sums over live ones: of numbers at slots, of parities, and over pairs of slots.
use mathlib.Core.Logic.{⊎_elim}
use mathlib.Core.Path.{◌≡◌, sym, ap, ap₂, ◌∙◌}
use Prim.Native.Nat.{ℕ, zero, suc, ◌*◌, ◌%◌, ◌^◌, ◌≤◌, ◌<◌}
use native.Mathlib.Omega.{arith}
use lib.Count.{ones}
use Rattle.exact.specs.Sum.{total, pairs}
use Rattle.exact.proofs.Laws.Sum.{split, total_ext, total-mul, total-zero}
use Rattle.bits.specs.Mask.{bit, parity}
use Rattle.body_pack.specs.Slot.{rank, slot_at, packed_mask}
use Rattle.body_pack.specs.Packed.{unpacked}
use Rattle.body_pack.proofs.Laws.Slot.{ones-rank, rank-slot, total-live}
use Rattle.body_pack.proofs.Laws.Mask.{packed-bit, packed_above}
use Rattle.body_pack.proofs.Laws.Read.{ones_small}

-- a sum whose terms are 0 from n on
total-stop : (m n : ℕ) (f : ℕ → ℕ) → n ≤ m → ((i : ℕ) → n ≤ i → f i ≡ 0) → total m f ≡ total n f
unfolding total
total-stop zero n f l h = let e : 0 ≡ n = omega arith in ap (λ (k : ℕ). total k f) e
total-stop (suc m) n f l h =
    ⊎_elim
    (λ (q : n < suc m). omega (arith, total-stop m n f (omega arith) h, h m (omega arith)))
    (λ (q : suc m ≤ n). let e : suc m ≡ n = omega arith in ap (λ (k : ℕ). total k f) e)
    (split n (suc m))

module _ (live : ℕ) (h : live < 2 ^ 64) (y : ℕ → ℕ) where
  -- a sum over ranks, as one over the live slots
  ranks : (g : ℕ → ℕ) → total (ones live) (λ i. g (slot_at live i)) ≡ total 64 (λ v. bit live v * g v)
  ranks g = ap (λ (n : ℕ). total n (λ i. g (slot_at live i))) (ones-rank live h) ∙ sym (total-live live g 64 (omega arith))

  -- numbers a at the packed slots that are the numbers b at their live slots
  pub sum-packed : (a b : ℕ → ℕ) → ((i : ℕ) → i < ones live → a i ≡ b (slot_at live i)) → ((i : ℕ) → ones live ≤ i → a i ≡ 0)
      → total 64 (λ i. a i * y i) ≡ total 64 (λ v. b v * unpacked live y v)
  unfolding unpacked
  sum-packed a b e z =
      total-stop 64 (ones live) (λ i. a i * y i) (ones_small live h) (λ i l. ap (λ (x : ℕ). x * y i) (z i l) ∙ omega arith)
      ∙ total_ext (ones live) _ _ (λ i l. ap₂ (λ (p q : ℕ). p * y q) (e i l) (sym (rank-slot live h i l)))
      ∙ ranks (λ v. b v * y (rank live v))
      ∙ total_ext 64 _ _ (λ v l. omega arith)

  pub packed-parity : (m : ℕ) → parity (packed_mask live m) y ≡ parity m (unpacked live y)
  unfolding parity
  packed-parity m = ap (λ (s : ℕ). s % 2) (sum-packed (bit (packed_mask live m)) (bit m) (packed-bit live m) (packed_above live m))

  -- the same over pairs
  pub pairs-packed : (s b : ℕ → ℕ → ℕ) → ((i j : ℕ) → i < ones live → j < ones live → s i j ≡ b (slot_at live i) (slot_at live j))
      → ((i j : ℕ) → ones live ≤ j → s i j ≡ 0)
      → pairs 64 (λ i j. s i j * (y i * y j)) ≡ pairs 64 (λ u v. b u v * (unpacked live y u * unpacked live y v))
  unfolding pairs unpacked
  pairs-packed s b e z =
      total-stop 64 (ones live) (λ j. total j (λ i. s i j * (y i * y j))) (ones_small live h) (λ j l. gone j l)
      ∙ total_ext (ones live) _ _ (λ j l. column j l)
      ∙ ranks inner
      ∙ total_ext 64 _ _ (λ v l. back v l)
    where
      at : ℕ → ℕ
      at v = y (rank live v)

      -- what slot v has with the live slots below it
      inner : ℕ → ℕ
      inner v = total (rank live v) (λ i. b (slot_at live i) v * (at (slot_at live i) * at v))

      gone : (j : ℕ) → ones live ≤ j → total j (λ i. s i j * (y i * y j)) ≡ 0
      gone j l = total-zero j _ (λ i k. ap (λ (x : ℕ). x * (y i * y j)) (z i j l) ∙ omega arith)

      column : (j : ℕ) → j < ones live → total j (λ i. s i j * (y i * y j)) ≡ inner (slot_at live j)
      column j l =
          total_ext j _ _
          (λ i k.
          ap₂ (λ (p q : ℕ). p * q) (e i j (omega arith) l)
          (ap₂ (λ (p q : ℕ). y p * y q) (sym (rank-slot live h i (omega arith))) (sym (rank-slot live h j l))))
          ∙ ap (λ (n : ℕ). total n (λ i. b (slot_at live i) (slot_at live j) * (at (slot_at live i) * at (slot_at live j)))) (sym (rank-slot live h j l))

      back : (v : ℕ) → v < 64 → bit live v * inner v ≡ total v (λ u. b u v * (bit live u * at u * (bit live v * at v)))
      back v l =
          sym (total-mul (rank live v) (bit live v) (λ i. b (slot_at live i) v * (at (slot_at live i) * at v)))
          ∙ sym (total-live live (λ u. bit live v * (b u v * (at u * at v))) v (omega arith))
          ∙ total_ext v _ _ (λ u k. omega arith)

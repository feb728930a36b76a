-- A table made fresh in lent bytes: no second result.
use mathlib.Core.List.{List}
use mathlib.Core.Logic.{◌≢◌, ⊎_elim}
use mathlib.Core.Path.{◌≡◌, sym, ◌∙◌}
use Prim.Native.Nat.{ℕ}
use lib.ListN.{length}
use Rattle.bits.proofs.Laws.Bit.{same_or}
use Rattle.image.specs.Image.{image_size}
use Rattle.told_tables.specs.Calls.{FreshTold}

-- no second result: one number and the same bytes
pub one-fresh : (xs : List ℕ) (n m : ℕ) (ys zs : List ℕ) → FreshTold xs n ys → FreshTold xs m zs → (n ≡ m) × (ys ≡ zs)
one-fresh xs n m ys zs a b =
    ⊎_elim
    (λ (h : length xs ≡ image_size). (a.number h ∙ sym (b.number h), a.done h ∙ sym (b.done h)))
    (λ (h : length xs ≢ image_size). (a.short h ∙ sym (b.short h), a.kept h ∙ sym (b.kept h)))
    (same_or (length xs) image_size)

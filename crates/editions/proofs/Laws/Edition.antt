-- What a good edition is: by the truth of each comparison.
use mathlib.Core.Path.{◌≡◌, refl, sym, ap, ◌∙◌}
use mathlib.Core.Bool.{Bool, true, false, ◌||◌}
use mathlib.Core.Logic.{◌⊎◌, inl, inr}
use Prim.Native.Nat.{ℕ}
use lib.Dec.{eqb}
use borrow.Author.Tests.{eqb-true}
use Rattle.editions.specs.Edition.{good_edition}

pub edition-cases : (e : ℕ) → good_edition e ≡ true → (e ≡ 1) ⊎ (e ≡ 2)
unfolding good_edition
edition-cases e h = go (eqb e 1) refl
  where
    go : (t : Bool) → eqb e 1 ≡ t → (e ≡ 1) ⊎ (e ≡ 2)
    go true q = inl (eqb-true e 1 q)
    go false q = inr (eqb-true e 2 (ap (λ (t : Bool). t || eqb e 2) (sym q) ∙ h))

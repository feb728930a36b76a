-- The number of a body's blocks, by whether they are at fault.
use mathlib.Core.Bool.{Bool, true, false, cond}
use mathlib.Core.List.{List}
use mathlib.Core.Path.{◌≡◌, refl, sym, ap, ◌∙◌, subst}
use Prim.Native.Nat.{ℕ, zero, suc}
use Rattle.blocks.specs.Expansion.{blocks_fault, blocks_number}

module _ (bs : List ℕ) where
  pub number-fault : blocks_fault bs ≡ true → 16 ≡ blocks_number bs
  unfolding blocks_number
  number-fault e = ap (λ (b : Bool). cond b 16 0) (sym e)

  pub number-good : blocks_fault bs ≡ false → 0 ≡ blocks_number bs
  unfolding blocks_number
  number-good e = ap (λ (b : Bool). cond b 16 0) (sym e)

  -- where blocks are not refused they are not at fault
  pub no-fault : blocks_number bs ≡ 0 → blocks_fault bs ≡ false
  unfolding blocks_number
  no-fault e = go (blocks_fault bs) refl
    where
      go : (b : Bool) → blocks_fault bs ≡ b → blocks_fault bs ≡ false
      go false z = z
      go true z = absurd (subst (λ (k : ℕ). low k) (sym (ap (λ (b : Bool). cond b 16 0) z) ∙ e) tt)
        where
          low : ℕ → Type 0
          low zero = ⊥
          low (suc k) = Unit {0}

-- One over two to the e as a power of root two: it fits a signed number of 32 bits, and is what the definition says.
use mathlib.Core.Bool.{Bool, cond}
use mathlib.Core.Path.{◌≡◌, refl, sym, ap, ◌∙◌, subst}
use Prim.Native.Nat.{ℕ, zero, suc, ◌+◌, ◌-◌, ◌*◌, ◌≤◌, ◌<◌}
use native.Mathlib.Omega.{arith}
use borrow.Author.Tests.{lt-ltb}
use lib.IntN.{ℤ, pos, negsuc, ◌-ℤ◌}
use mir.Syntax.{w32}
use mir.Val.{SFits, to_z, of_z}
use mir.ValLaws.{to_z_pos, to_z-of_z}
use Rattle.exact.specs.declared.Amount.{Amount}
use Rattle.exact.specs.Amount.{some}
use Rattle.exact.specs.Chance.{one_over}
use Rattle.told.specs.Inner.Power.{minus, minus_twice}

less : (n : ℕ) → pos 0 -ℤ pos n ≡ minus n
less zero = refl
less (suc n) = ap (λ (t : Bool). cond t (negsuc (suc n - 1)) (pos (0 - suc n))) (lt-ltb 0 (suc n) (omega arith)) ∙ ap negsuc (omega arith)

minus-fits : (n : ℕ) → n ≤ 131072 → SFits w32 (minus n)
minus-fits zero h = record { sfits = omega arith }
minus-fits (suc n) h = record { sfits = omega arith }

minus_is : (n : ℕ) → n ≤ 131072 → pos 0 -ℤ to_z w32 n ≡ minus n
minus_is n h = ap (λ (z : ℤ). pos 0 -ℤ z) (to_z_pos w32 n (omega arith)) ∙ less n

pub over-fits : (e : ℕ) → e ≤ 65536 → SFits w32 (pos 0 -ℤ to_z w32 (2 * e))
over-fits e h = subst (SFits w32) (sym (minus_is (2 * e) (omega arith))) (minus-fits (2 * e) (omega arith))

pub over-law : (e : ℕ) → e ≤ 65536 → to_z w32 (of_z w32 (pos 0 -ℤ to_z w32 (2 * e))) ≡ minus_twice e
unfolding minus_twice
over-law e h = to_z-of_z w32 (pos 0 -ℤ to_z w32 (2 * e)) (over-fits e h) ∙ minus_is (2 * e) (omega arith)

pub over-amount : (e : ℕ) → some (minus_twice e) 0 ≡ one_over e
unfolding minus_twice
over-amount zero = refl
over-amount (suc e) = ap (λ (n : ℕ). some (minus n) 0) (two e)
  where
    two : (e : ℕ) → 2 * suc e ≡ suc (2 * e + 1)
    two e = omega arith

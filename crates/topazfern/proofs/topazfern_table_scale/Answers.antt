-- `topazfern_table_scale` meets its contract: the power is read back from its bits.
use mathlib.Core.List.{List}
use mathlib.Core.Path.{◌≡◌, subst}
use Prim.Native.Nat.{ℕ}
use lib.IntN.{ℤ}
use mir.Facts.{to_z-of_z}
use Rattle.told_tables.specs.Calls.{ScaleTold}
use Rattle.topazfern.proofs.topazfern_table_scale.Goals as goal

at_same : (xs : List ℕ) (a b : ℤ) (p n : ℕ) (ys : List ℕ) → a ≡ b → ScaleTold xs a p n ys → ScaleTold xs b p n ys
at_same xs a b p n ys e = subst (λ (z : ℤ). ScaleTold xs z p n ys) e

pub returns : goal.returns
returns c = at_same _ _ _ _ _ _ (to_z-of_z c.ranges.m) c.scale.ensures

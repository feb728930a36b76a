-- `doubles::raise` meets its contract: the power held within its range, and 2,002 more.
use mathlib.Core.Path.{◌≡◌}
use native.Mathlib.Omega.{arith}
use lib.IntN.{ℤ, pos, negsuc, ◌+ℤ◌}
use Rattle.std.specs.Int.{int_max, int_min}
use Rattle.std.proofs.lemmas.Int.{ints, clamps}
use Rattle.doubles.specs.Inner.Steps.{raised}
use Rattle.doubles.proofs.raise.Goals as goal

moved : (s : ℤ) → int_max (negsuc 1999) (int_min s (pos 2000)) +ℤ pos 2002 ≡ pos (raised s)
unfolding raised
moved (pos n) = omega (arith, ints, clamps)
moved (negsuc n) = omega (arith, ints, clamps)

pub returns : goal.returns
returns c = omega (arith, ints, clamps, moved c.args.power)

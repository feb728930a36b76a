-- `doubles::repeat` meets its contract: the invariant says that r has had i of the products.
use mathlib.Core.Path.{◌≡◌}
use Rattle.doubles.specs.Inner.Steps.{repeated}
use Rattle.doubles.proofs.repeat.Given as goal

abbrev pub invariant-loop-i : goal.invariant-loop-i
invariant-loop-i l = l.r ≡ repeated l.x l.factor l.i

-- `doubles::repeat` meets its contract: the invariant says that r has had i of the products.
use mathlib.Core.Path.{◌≡◌, refl, ap, ◌∙◌}
use native.Mathlib.Omega.{arith}
use native.Mathlib.Numerals.{add-one}
use Rattle.doubles.specs.Inner.Steps.{repeated}
use Rattle.doubles.proofs.repeat.Goals as goal

pub loop-i-init : goal.loop-i-init
unfolding repeated
loop-i-init c = refl

pub loop-i-preserved : goal.loop-i-preserved
unfolding repeated
loop-i-preserved c = rw (add-one, c.loop-i.invariant)

pub returns : goal.returns
returns c = let e : c.loop-i.i ≡ c.args.n = omega arith in c.loop-i.invariant ∙ ap (repeated c.args.x c.args.factor) e

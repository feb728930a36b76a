-- `doubles::root_power` meets its contract: the test on u / 2 picks the way, and the callees say what they give.
use borrow.Author.Tests.{lt-ltb, le-ltb}
use mathlib.Core.Path.{ap, ◌∙◌}
use Prim.Native.Nat.{◌-◌, ◌/◌}
use lib.Ieee.{Float, of_bits}
use Rattle.doubles.specs.Inner.Steps.{repeated, two, half, stepped}
use Rattle.doubles.proofs.root_power.Goals as goal

pub returns-then-k-lt1001 : goal.returns-then-k-lt1001
unfolding stepped of_bits
returns-then-k-lt1001 c =
    let u = c.args.u in
    rw (lt-ltb (u / 2) 1001 c.if-k-lt1001.true) (c.repeat.ensures ∙ ap (λ (x : Float). repeated x half (1001 - u / 2)) c.start.ensures)

pub returns : goal.returns
unfolding stepped of_bits
returns c =
    let u = c.args.u in
    rw (le-ltb (u / 2) 1001 c.if-k-lt1001.false) (c.repeat-2.ensures ∙ ap (λ (x : Float). repeated x two (u / 2 - 1001)) c.start-2.ensures)

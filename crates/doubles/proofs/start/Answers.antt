-- `doubles::start` meets its contract: the literals' bits are the values.
use borrow.Author.Tests.{eq-eqb, ne_eqb}
use lib.Ieee.{of_bits}
use Rattle.doubles.specs.Inner.Steps.{start_at}
use Rattle.doubles.proofs.start.Goals as goal

pub returns-then-u-eq0 : goal.returns-then-u-eq0
unfolding start_at of_bits
returns-then-u-eq0 c = rw (eq-eqb _ _ c.if-u-eq0.true)

pub returns-else-u-eq0 : goal.returns-else-u-eq0
unfolding start_at of_bits
returns-else-u-eq0 c = rw (ne_eqb _ _ c.if-u-eq0.false)

-- `turn_fault` meets its contract: the test of each turn in turn.
use borrow.Author.Rules.{rules}
use borrow.Author.Tests.{tests}
use Rattle.body_bytes.specs.Body.{turn_fault}
use Rattle.body_bytes.proofs.Laws.Any.{any-tested}
use Rattle.body_fault.proofs.turn_fault.Goals as goal

pub returns : goal.returns
unfolding turn_fault
returns c = any-tested (turn_fault c.args.bs.now) c.args.width (λ x b q e. search (rules, tests)) _ _ c.any.ensures.ran

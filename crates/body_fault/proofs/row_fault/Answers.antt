-- `row_fault` meets its contract: the test of each row in turn.
use borrow.Author.Rules.{rules}
use borrow.Author.Tests.{tests}
use Rattle.body_bytes.specs.Body.{row_fault}
use Rattle.body_bytes.proofs.Laws.Any.{any-tested}
use Rattle.body_fault.proofs.row_fault.Goals as goal

pub returns : goal.returns
unfolding row_fault
returns c = any-tested (row_fault c.args.width c.args.bs.now) c.args.width (λ x b q e. search (rules, tests)) _ _ c.any.ensures.ran

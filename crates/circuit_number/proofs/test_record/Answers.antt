-- `test_record` meets its contract: 0 is a string of any width.
use mathlib.Core.Path.{◌∙◌}
use Rattle.circuit_number.proofs.Laws.Number.{record-tested}
use Rattle.circuit_number.proofs.test_record.Goals as goal

pub returns : goal.returns
returns c = c.tested.ensures ∙ record-tested c.args.width c.args.input c.args.gates.now

-- `test` meets its contract: by the number with two strings.
use mathlib.Core.Path.{◌∙◌}
use Rattle.operator_number.proofs.Laws.Number.{operator-is}
use Rattle.operator_number.proofs.test.Goals as goal

pub returns : goal.returns
returns c = c.test.ensures ∙ operator-is c.args.edition c.args.width c.args.gates.now

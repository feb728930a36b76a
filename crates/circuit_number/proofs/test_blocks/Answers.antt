-- `test_blocks` meets its contract: 16 or nothing.
use mathlib.Core.Path.{◌∙◌, sym}
use Rattle.circuit_number.proofs.Laws.Number.{blocks-sixteen}
use Rattle.circuit_number.proofs.test_blocks.Goals as goal

pub returns-then-number-eq0 : goal.returns-then-number-eq0
returns-then-number-eq0 c = sym c.if-number-eq0.true ∙ c.number.ensures

pub returns : goal.returns
returns c = blocks-sixteen c.args.gates.now c.number.result c.number.ensures c.if-number-eq0.false

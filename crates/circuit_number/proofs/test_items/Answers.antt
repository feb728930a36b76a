-- `test_items` meets its contract: nothing where every item is a fine gate, else the items' refusal, and then that of their blocks.
use mathlib.Core.Path.{ap, ◌∙◌}
use Rattle.exact.specs.Code.{refusal_in}
use Rattle.circuit_number.proofs.Laws.Number.{fine-number, items-then}
use Rattle.circuit_number.proofs.test_items.Goals as goal

pub returns-then-all_fine : goal.returns-then-all_fine
returns-then-all_fine c =
    fine-number c.args.dialect c.args.width c.args.gates.now c.requires (c.all_fine.ensures c.if-all_fine.true)

pub returns : goal.returns
returns c =
    ap refusal_in c.and.ensures
    ∙ items-then c.args.dialect c.args.width c.args.gates.now c.first_refusal-item.result c.test_blocks-block.result c.first_refusal-item.ensures c.test_blocks-block.ensures

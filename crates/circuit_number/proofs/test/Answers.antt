-- `test` meets its contract: the edition's refusal, and then that of its dialect's tests.
use mathlib.Core.Path.{ap, ◌∙◌}
use Rattle.exact.specs.Code.{refusal_in}
use Rattle.circuit_number.proofs.Laws.Number.{edition-then}
use Rattle.circuit_number.proofs.test.Goals as goal

pub returns : goal.returns
returns c =
    let a = c.args in
    ap refusal_in c.and.ensures
    ∙ edition-then a.edition a.width a.input a.output a.gates.now c.test_edition-edition_own.result c.tested-circuit_own.result c.test_edition-edition_own.ensures c.tested-circuit_own.ensures

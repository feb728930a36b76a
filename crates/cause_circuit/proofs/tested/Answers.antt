-- `tested` meets its contract: the head, the items, the blocks.
use mathlib.Core.Path.{sym, ap}
use Rattle.std.proofs.lemmas.Result.{err_from_is_err_and}
use Rattle.cause.specs.Cause.{found_number}
use Rattle.cause.proofs.Laws.First.{faulty}
use Rattle.cause_circuit.proofs.Laws.Ways.{in_head, in-items, in_blocks}
use Rattle.cause_circuit.proofs.tested.Goals as goal

pub returns-in_err-head : goal.returns-in_err-head
returns-in_err-head c =
    let a = c.args in
    let p = err_from_is_err_and c.from_residual.result c.from_residual.ensures.1 in
    rw (p.1, p.2) (in_head a.from a.at a.listed a.dialect a.width a.input a.output a.gates.now _ c.in_err-head.ensures (faulty c.in_err-head.field-0.0))

pub returns-in_err-first : goal.returns-in_err-first
returns-in_err-first c =
    let a = c.args in
    let p = err_from_is_err_and c.from_residual-in_err-first.result c.from_residual-in_err-first.ensures.1 in
    rw (p.1, p.2) (in-items a.from a.at a.listed a.dialect a.width a.input a.output a.gates.now _ (ap found_number (sym c.in_ok-head.ensures)) c.in_err-first.ensures (faulty c.in_err-first.field-0.0))

pub returns : goal.returns
returns c = let a = c.args in in_blocks a.from a.at a.listed a.dialect a.width a.input a.output a.gates.now _ (ap found_number (sym c.in_ok-head.ensures)) (ap found_number (sym c.in_ok-first.ensures)) c.first-2.ensures

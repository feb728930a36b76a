-- `fields_of` meets its contract: field by field.
use mathlib.Core.Path.{sym, ap}
use Rattle.std.proofs.lemmas.Result.{err_from_is_err_and}
use Rattle.cause.specs.Cause.{found_number}
use Rattle.cause.proofs.Laws.First.{faulty}
use Rattle.cause_table.proofs.Laws.Ways.{in_size, in_head, in_turns, in_rows, in-ties}
use Rattle.cause_table.proofs.fields_of.Goals as goal

pub returns-in_err-size : goal.returns-in_err-size
returns-in_err-size c =
    let a = c.args in
    let p = err_from_is_err_and c.from_residual.result c.from_residual.ensures.1 in
    rw (p.1, p.2) (in_size a.from a.listed a.width a.bs.now _ c.in_err-size.ensures (faulty c.in_err-size.field-0.0))

pub returns-in_err-head : goal.returns-in_err-head
returns-in_err-head c =
    let a = c.args in
    let p = err_from_is_err_and c.from_residual-in_err-head.result c.from_residual-in_err-head.ensures.1 in
    rw (p.1, p.2) (in_head a.from a.listed a.width a.bs.now _ (ap found_number (sym c.in_ok-size.ensures)) c.in_err-head.ensures (faulty c.in_err-head.field-0.0))

pub returns-in_err-turns : goal.returns-in_err-turns
returns-in_err-turns c =
    let a = c.args in
    let p = err_from_is_err_and c.from_residual-in_err-turns.result c.from_residual-in_err-turns.ensures.1 in
    rw (p.1, p.2) (in_turns a.from a.listed a.width a.bs.now _ (ap found_number (sym c.in_ok-size.ensures)) (ap found_number (sym c.in_ok-head.ensures)) c.in_err-turns.ensures (faulty c.in_err-turns.field-0.0))

pub returns-in_err-rows : goal.returns-in_err-rows
returns-in_err-rows c =
    let a = c.args in
    let p = err_from_is_err_and c.from_residual-in_err-rows.result c.from_residual-in_err-rows.ensures.1 in
    rw (p.1, p.2) (in_rows a.from a.listed a.width a.bs.now _ (ap found_number (sym c.in_ok-size.ensures)) (ap found_number (sym c.in_ok-head.ensures)) (ap found_number (sym c.in_ok-turns.ensures)) c.in_err-rows.ensures (faulty c.in_err-rows.field-0.0))

pub returns : goal.returns
returns c = let a = c.args in in-ties a.from a.listed a.width a.bs.now _ (ap found_number (sym c.in_ok-size.ensures)) (ap found_number (sym c.in_ok-head.ensures)) (ap found_number (sym c.in_ok-turns.ensures)) (ap found_number (sym c.in_ok-rows.ensures)) c.ties.ensures

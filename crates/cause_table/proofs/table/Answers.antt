-- `table` meets its contract: the fields, then what reading the body answers.
use mathlib.Core.Path.{refl}
use Rattle.std.specs.Prelude.{Err}
use Rattle.std.proofs.lemmas.Result.{err_from_is_err_and}
use Rattle.cause.proofs.Laws.First.{faulty}
use Rattle.cause_table.proofs.Laws.Ways.{table-fault, table-broken, table-good}
use Rattle.cause_table.proofs.table.Goals as goal

pub returns-in_err-fields_of : goal.returns-in_err-fields_of
returns-in_err-fields_of c =
    let a = c.args in
    let p = err_from_is_err_and c.from_residual.result c.from_residual.ensures.1 in
    rw (p.1, p.2) (table-fault a.from a.listed a.width a.bs.now (Err c.in_err-fields_of.field-0.0) _ c.in_err-fields_of.ensures (faulty c.in_err-fields_of.field-0.0))

pub returns-then-refusal-ne0 : goal.returns-then-refusal-ne0
returns-then-refusal-ne0 c = let a = c.args in table-broken a.from a.listed a.width a.bs.now _ _ c.in_ok-fields_of.ensures refl c.read-r.result c.read-r.ensures c.if-refusal-ne0.true c.fault.ensures

pub returns : goal.returns
returns c = let a = c.args in table-good a.from a.listed a.width a.bs.now _ _ c.in_ok-fields_of.ensures refl c.read-r.result c.read-r.ensures c.if-refusal-ne0.false refl

-- `table_amount` meets its contract: where the mark is not set, the fields are read as they stand.
use mathlib.Core.Bool.{Bool, cond}
use mathlib.Core.Path.{sym, ap}
use Rattle.exact.specs.Amount.{none}
use Rattle.exact.specs.declared.Amount.TheVariants.{Some}
use Rattle.listing_line.proofs.table_amount.Goals as goal

pub returns : goal.returns
returns c =
    let t = c.args.t in
    sym (ap (λ (z : Bool). cond z none (Some t.power t.form.phase)) c.if-t.false)

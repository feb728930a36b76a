-- `check` meets its contract: the verdict of the call, told.
use Rattle.told_tableau.proofs.Laws.Told.{verdict-told}
use Rattle.told_tableau.proofs.check.Goals as goal

pub returns : goal.returns
returns c =
    verdict-told c.args.edition c.args.width c.args.gates.now c.args.rows.now c.args.h c.check.result c.args.holds.now c.tell.result c.tell.new.holds c.check.ensures c.tell.ensures

-- `inverse` meets its contract: the answer of the call, told.
use Rattle.told_cliffords.proofs.Laws.Told.{told}
use Rattle.told_cliffords.proofs.inverse.Goals as goal

pub returns : goal.returns
returns c = told _ _ c.inverse.result c.args.element.now c.tell.result c.tell.new.element c.inverse.ensures c.tell.ensures

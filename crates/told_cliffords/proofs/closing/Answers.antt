-- `closing` meets its contract: the answer of the call, told.
use Rattle.told_cliffords.proofs.Laws.Told.{told}
use Rattle.told_cliffords.proofs.closing.Goals as goal

pub returns : goal.returns
returns c = told _ _ c.closing.result c.args.element.now c.tell.result c.tell.new.element c.closing.ensures c.tell.ensures

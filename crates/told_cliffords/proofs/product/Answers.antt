-- `product` meets its contract: the answer of the call, told.
use Rattle.told_cliffords.proofs.Laws.Told.{told}
use Rattle.told_cliffords.proofs.product.Goals as goal

pub returns : goal.returns
returns c = told _ _ c.product.result c.args.element.now c.tell.result c.tell.new.element c.product.ensures c.tell.ensures

-- `item` meets its contract: the reading of its three bytes, and why.
use Rattle.cause_items.proofs.Laws.Ways.{item-told}
use Rattle.cause_items.proofs.item.Goals as goal

pub returns : goal.returns
returns c = let a = c.args in item-told a.at a.dialect a.width a.items.now a.j _ _ _ c.read.ensures c.number-k.ensures c.refine.ensures

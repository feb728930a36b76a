-- `splice` meets its contract: the two moves, the body and the zeros, one after the other.
use borrow.Author.Rules.{rules}
use Rattle.edit_moves.proofs.Laws.Splice.{spliced-by_calls}
use Rattle.edit_moves.proofs.splice.Goals as goal

pub returns : goal.returns
returns c =
    let a = c.args in
    spliced-by_calls a.area.now a.n a.old a.new a.from a.to a.body.now c.requires _ _ _ _ c.min.result c.copy_within.ensures.len c.copy_within.ensures.by_index c.copy_within-2.ensures.len c.copy_within-2.ensures.by_index c.put.ensures (search rules) (search rules)

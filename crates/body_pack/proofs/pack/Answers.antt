-- `pack` meets its contract: a packed live mask is that of the lowest slots.
use Rattle.body_pack.proofs.Laws.Packed.{table_done}
use borrow.Author.Rules.{rules}
use Rattle.body_pack.proofs.pack.Goals as goal

pub returns : goal.returns
returns c = table_done _ _ _ _ (search rules) c.packed_mask.ensures c.pack_form-t.ensures c.pack_ties-t.ensures

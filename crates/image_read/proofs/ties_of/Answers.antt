-- `ties_of` meets its contract: part by part.
use Rattle.image_read.proofs.Laws.Parts.{ties-are}
use Rattle.image_read.proofs.ties_of.Goals as goal

pub returns : goal.returns
returns c = ties-are c.args.bs.now _ _ _ c.read_u8.ensures c.numbers_of.ensures c.sides_of.ensures

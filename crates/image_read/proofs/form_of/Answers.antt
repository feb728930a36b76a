-- `form_of` meets its contract: part by part.
use Rattle.image_read.proofs.Laws.Parts.{form-is}
use Rattle.image_read.proofs.form_of.Goals as goal

pub returns : goal.returns
returns c = form-is c.args.bs.now _ _ _ c.read_u8.ensures c.turns_of.ensures c.numbers_of.ensures

-- `edition` meets its contract: the byte read.
use Rattle.contents.specs.Contents.{edition_of}
use Rattle.contents.proofs.edition.Goals as goal

pub returns : goal.returns
unfolding edition_of
returns c = c.read_u8.ensures

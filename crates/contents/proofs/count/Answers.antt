-- `count` meets its contract: the byte read.
use Rattle.contents.specs.Contents.{count_of}
use Rattle.contents.proofs.count.Goals as goal

pub returns : goal.returns
unfolding count_of
returns c = c.read_u8.ensures

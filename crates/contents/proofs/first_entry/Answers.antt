-- `first_entry` meets its contract: the four fields read.
use Rattle.contents.specs.Contents.{kind_of, width_of, length_of, start_of}
use Rattle.contents.proofs.Laws.Entry.{entry-eq}
use Rattle.contents.proofs.first_entry.Goals as goal

pub returns : goal.returns
unfolding kind_of width_of length_of start_of
returns c =
    entry-eq _ 0 _
    c.read_u8.ensures
    c.read_u8-2.ensures
    c.read_u32.ensures.is
    c.read_u16.ensures.is

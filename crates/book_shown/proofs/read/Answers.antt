-- `read` meets its contract: from label 0 on, what is read is what the bytes say.
use Rattle.book_shown.proofs.Laws.Zero.{from_zero}
use Rattle.book_shown.proofs.read.Goals as goal

pub returns : goal.returns
returns c = from_zero c.read.result c.without.result c.read.ensures c.without.ensures

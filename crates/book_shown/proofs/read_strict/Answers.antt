-- `read_strict` meets its contract: from label 0 on, what is read is what the bytes say.
use Rattle.book_shown.proofs.Laws.Zero.{from_zero}
use Rattle.book_shown.proofs.read_strict.Goals as goal

pub returns : goal.returns
returns c = from_zero c.read_strict.result c.without.result c.read_strict.ensures c.without.ensures

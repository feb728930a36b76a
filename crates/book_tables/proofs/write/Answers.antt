-- `write` meets its contract: by the labels, then that of the writer of the state.
use borrow.Author.Tests.{not-true, not-false}
use Rattle.book_tables.proofs.Laws.Write.{write-not, write-by}
use Rattle.book_tables.proofs.write.Goals as goal

pub returns-then-not-proper : goal.returns-then-not-proper
returns-then-not-proper c = write-not _ _ _ (c.proper.ensures.fails (not-true _ c.if-not-proper.true-raw))

pub returns : goal.returns
returns c = write-by _ _ _ _ _ (c.proper.ensures.holds (not-false _ c.if-not-proper.false-raw)) c.write.ensures

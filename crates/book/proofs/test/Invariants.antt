-- `test` meets its contract: no body before body j is refused.
use Rattle.book.specs.Book.{Clear}
use Rattle.book.proofs.test.Given as goal

abbrev pub invariant-loop-j : goal.invariant-loop-j
invariant-loop-j l = Clear l.book l.j

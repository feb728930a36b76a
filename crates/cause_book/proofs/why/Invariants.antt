-- `why` meets its contract: no body below j has a fault.
use Rattle.cause_book.specs.Why.{Unfaulted}
use Rattle.cause_book.proofs.why.Given as goal

abbrev pub invariant-loop-j : goal.invariant-loop-j
invariant-loop-j l = Unfaulted l.book l.j

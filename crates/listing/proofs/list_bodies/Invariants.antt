-- `listing::list_bodies` meets its contract: the invariant says that the first line and those of the first j bodies are written.
use Rattle.listing.proofs.Laws.Sofar.{Sofar}
use Rattle.listing.proofs.list_bodies.Given as goal

abbrev pub invariant-loop-j : goal.invariant-loop-j
invariant-loop-j l = Sofar l.book l.initial.text l.j l.text

-- `list_tables` meets its contract: the invariant says that the first line and those of the tables among the first j bodies are written.
use Rattle.path_listing.proofs.Laws.Sofar.{Sofar}
use Rattle.path_listing.proofs.list_tables.Given as goal

abbrev pub invariant-loop-j : goal.invariant-loop-j
invariant-loop-j l = Sofar l.book l.initial.text l.j l.text

-- `fine_at` meets its contract: one kind of gate or the other.
use mathlib.Core.Logic.{⊎_elim}
use Rattle.gates.specs.Circuit.{item_at}
use Rattle.circuit_number.proofs.Laws.Fine.{either}
use Rattle.circuit_number.proofs.fine_at.Goals as goal

pub returns : goal.returns
unfolding item_at
returns c e = ⊎_elim c.one_fine.ensures c.two_fine.ensures (either c.one_fine.result c.two_fine.result e)

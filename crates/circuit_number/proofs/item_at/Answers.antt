-- `item_at` meets its contract: the three bytes of gate j.
use Rattle.gates.specs.Circuit.{item_at}
use Rattle.circuit_number.proofs.item_at.Goals as goal

pub returns : goal.returns
unfolding item_at
returns c = c.read.ensures

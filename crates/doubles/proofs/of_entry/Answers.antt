-- `doubles::of_entry` meets its contract: it is Entry's answer as doubles.
use Rattle.doubles.proofs.Laws.Entry.{doubles-at}
use Rattle.doubles.proofs.of_entry.Goals as goal

pub returns : goal.returns
returns c = doubles-at _ _ _ _ c.entry.ensures c.of_answer.ensures

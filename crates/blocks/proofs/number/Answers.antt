-- `number` meets its contract: 16 where the whole reading is a fault, else 0.
use Rattle.blocks.proofs.Laws.Number.{number-fault, number-good}
use Rattle.blocks.proofs.number.Goals as goal

pub returns-in-None : goal.returns-in-None
returns-in-None c = number-fault _ c.in-None.ensures

pub returns-in-Some : goal.returns-in-Some
returns-in-Some c = number-good _ c.in-Some.ensures.good

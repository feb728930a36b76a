-- `power_over` meets its contract: the number fits, and is read back from its bits.
use Rattle.told.proofs.Laws.Power.{over-fits, over-law}
use Rattle.told.proofs.power_over.Goals as goal

pub overflow_sub-result : goal.overflow_sub-result
overflow_sub-result c = over-fits c.args.e c.requires

pub returns : goal.returns
returns c = over-law c.args.e c.requires

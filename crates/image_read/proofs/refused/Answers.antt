-- `refused` meets its contract: the fresh state and no labels.
use mathlib.Core.Path.{ap₂}
use Rattle.image_read.specs.Read.{reading}
use Rattle.image_read.proofs.refused.Goals as goal

pub returns : goal.returns
returns c = ap₂ (reading c.args.n) c.fresh.ensures c.none.ensures

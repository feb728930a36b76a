-- `label_of` meets its contract: the two bytes of the slot.
use mathlib.Core.Path.{ap}
use Rattle.labels.specs.Labels.{named}
use Rattle.image_read.proofs.label_of.Goals as goal

pub returns : goal.returns
returns c = ap named c.read_u16.ensures.is

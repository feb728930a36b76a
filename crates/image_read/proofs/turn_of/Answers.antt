-- `turn_of` meets its contract: the byte of the slot.
use mathlib.Core.Path.{ap}
use Rattle.form.specs.Form.{quarter}
use Rattle.image_read.proofs.turn_of.Goals as goal

pub returns : goal.returns
returns c = ap quarter c.read_u8.ensures

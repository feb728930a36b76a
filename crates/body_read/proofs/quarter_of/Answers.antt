-- `quarter_of` meets its contract: the turn, as a count of quarter turns.
use mathlib.Core.Path.{ap}
use Rattle.form.specs.Form.{quarter}
use Rattle.body_read.proofs.quarter_of.Goals as goal

pub returns : goal.returns
returns c = ap quarter c.turn_of.ensures

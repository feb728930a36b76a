-- `refused` meets its contract: its fields.
use mathlib.Core.Path.{refl}
use Rattle.edit.proofs.refused.Goals as goal

pub returns : goal.returns
returns c = refl

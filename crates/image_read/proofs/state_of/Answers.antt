-- `state_of` meets its contract: part by part.
use mathlib.Core.Path.{◌∙◌}
use mir.Facts.{to_z-of_z}
use mir.Syntax.{w32}
use mir.Val.{SFits}
use Rattle.image_read.proofs.Laws.Parts.{state-is}
use borrow.Author.Rules.{rules}
use Rattle.image_read.proofs.state_of.Goals as goal

pub returns : goal.returns
returns c =
    let p : SFits w32 c.power_of.result = search rules in
    state-is c.args.bs.now _ _ _ _ _ c.read_u8.ensures (to_z-of_z p ∙ c.power_of.ensures) c.read_u64.ensures.is c.form_of.ensures c.ties_of.ensures

-- `power_of` meets its contract: the number of two bytes, read as two's complement.
use mathlib.Core.Path.{ap, ◌∙◌}
use mir.Facts.{to_z-of_z}
use mir.Syntax.{w32}
use mir.Val.{SFits}
use borrow.Author.Rules.{rules}
use Rattle.body_bytes.specs.Body.{signed16}
use Rattle.body_bytes.proofs.power_of.Goals as goal

pub returns : goal.returns
returns c =
    let f : SFits w32 c.signed.result = search rules in
    to_z-of_z f ∙ c.signed.ensures ∙ ap signed16 c.read_u16.ensures.is

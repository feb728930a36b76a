-- `signed` meets its contract: the library's two's complement of 16 bits.
use mathlib.Core.Path.{◌∙◌}
use native.Mathlib.Omega.{arith}
use borrow.Author.Rules.{rules}
use mir.Facts.{to_z-of_z}
use mir.Syntax.{w16, w32}
use mir.Val.{SFits}
use Rattle.body_bytes.proofs.Laws.Signed.{signed-is}
use Rattle.body_bytes.proofs.signed.Goals as goal

pub returns : goal.returns
returns c =
    let f : SFits w32 c.from.result = search rules in
    let g : SFits w16 c.cast_signed.result = search rules in
    to_z-of_z f ∙ c.from.ensures ∙ to_z-of_z g ∙ c.cast_signed.ensures ∙ signed-is c.args.n (omega arith)

-- `head_fault` meets its contract: test by test.
use mathlib.Core.Path.{ap, ◌∙◌}
use native.Mathlib.Omega.{arith}
use mir.Facts.{to_z-of_z}
use mir.Syntax.{w32}
use mir.Val.{SFits}
use borrow.Author.Rules.{rules}
use Rattle.state.specs.Number.{outside}
use borrow.Author.Tests.{tests}
use Rattle.std.proofs.lemmas.Grind.{common_steps}
use Rattle.body_bytes.specs.Body.{head_fault}
use Rattle.body_fault.proofs.head_fault.Goals as goal

pub returns-then-read_u8-gt7 : goal.returns-then-read_u8-gt7
unfolding head_fault
returns-then-read_u8-gt7 c = grind (arith, common_steps, tests)

pub returns-else-read_u8-gt7 : goal.returns-else-read_u8-gt7
unfolding head_fault
returns-else-read_u8-gt7 c =
    let f : SFits w32 c.power_of.result = search rules in
    let e = c.power_out.ensures ∙ ap outside (to_z-of_z f ∙ c.power_of.ensures) in
    grind (arith, common_steps, tests, e)

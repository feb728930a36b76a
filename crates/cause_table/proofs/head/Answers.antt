-- `head` meets its contract: test by test.
use borrow.Author.Rules.{rules}
use native.Mathlib.Omega.{arith}
use mathlib.Core.Path.{refl, ap, sym, ◌∙◌}
use mir.Facts.{to_z-of_z}
use mir.Syntax.{w32}
use mir.Val.{SFits}
use Rattle.state.specs.Number.{outside}
use Rattle.cause_table.proofs.Laws.Ways.{head-mark, head-phase, head-power, head-sound}
use Rattle.cause_table.proofs.head.Goals as goal

pub returns-then-read_u8-gt1 : goal.returns-then-read_u8-gt1
returns-then-read_u8-gt1 c = let a = c.args in head-mark a.from a.bs.now _ (omega arith) c.fault.ensures

pub returns-then-read_u8-gt7 : goal.returns-then-read_u8-gt7
returns-then-read_u8-gt7 c = let a = c.args in head-phase a.from a.bs.now _ (omega arith) (omega arith) c.fault-then-read_u8-gt7.ensures

pub returns-then-power_out : goal.returns-then-power_out
returns-then-power_out c = let a = c.args in let f : SFits w32 c.power_of.result = search rules in head-power a.from a.bs.now _ (omega arith) (omega arith) (sym (c.power_out.ensures ∙ ap outside (to_z-of_z f ∙ c.power_of.ensures)) ∙ c.if-power_out.true) c.fault-then-power_out.ensures

pub returns : goal.returns
returns c = let a = c.args in let f : SFits w32 c.power_of.result = search rules in head-sound a.from a.bs.now _ (omega arith) (omega arith) (sym (c.power_out.ensures ∙ ap outside (to_z-of_z f ∙ c.power_of.ensures)) ∙ c.if-power_out.false) refl

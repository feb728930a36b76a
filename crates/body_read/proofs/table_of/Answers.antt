-- `table_of` meets its contract: part by part; the width and the tie count are in range because the body is not refused.
use mathlib.Core.Path.{◌∙◌}
use native.Mathlib.Omega.{arith}
use mir.Facts.{to_z-of_z}
use mir.Syntax.{w32}
use mir.Val.{SFits}
use borrow.Author.Rules.{rules}
use Rattle.body_bytes.proofs.Laws.Fine.{fine}
use Rattle.body_read.proofs.Laws.Parts.{table_is}
use Rattle.body_read.proofs.table_of.Goals as goal

pub live_of-requires : goal.live_of-requires
live_of-requires c =
    (fine c.args.width c.args.bs.now c.requires).narrow

pub form_of-requires : goal.form_of-requires
form_of-requires c =
    (fine c.args.width c.args.bs.now c.requires).narrow

pub ties_of-requires : goal.ties_of-requires
ties_of-requires c =
    let f = fine c.args.width c.args.bs.now c.requires in
    omega (arith, f.narrow, f.few)

pub returns : goal.returns
returns c =
    let a = c.args in
    let p : SFits w32 c.power_of.result = search rules in
    table_is a.width a.bs.now _ _ _ _ _ c.read_u8.ensures (to_z-of_z p ∙ c.power_of.ensures)
    c.live_of.ensures c.form_of.ensures c.ties_of.ensures

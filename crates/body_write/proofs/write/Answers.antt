-- `write` meets its contract: refused by 12 or 13 with nothing written, or the body at the front of the part from the start on.
use native.Mathlib.Omega.{arith}
use lib.ListN.{length-drop}
use Rattle.fields.proofs.Laws.Front.{lent-part}
use Rattle.fields.proofs.Laws.Over.{lent-over}
use Rattle.body_write.specs.Body.{body_bytes}
use Rattle.body_write.proofs.Laws.Write.{write-broken, write-short, write_done}
use Rattle.body_write.proofs.write.Goals as goal
use Rattle.body_write.proofs.write.Goals.{then-area-start-via-then-area-start, then-area-start-via-else-area-start+then-area-start-2}

pub returns-then-not-normal : goal.returns-then-not-normal
returns-then-not-normal c =
    write-broken c.args.t c.args.area.now c.args.start (c.normal.ensures.fails c.if-not-normal.true)

pub body_size-size-requires : goal.body_size-size-requires
body_size-size-requires c = c.normal.ensures.holds c.if-not-normal.false

pub returns-then-area-start : goal.returns-then-area-start
returns-then-area-start c =
    write-short c.args.t c.args.area.now c.args.start (c.normal.ensures.holds c.if-not-normal.false)
    (elim c.then-area-start.branch [
      | then-area-start-via-then-area-start w ↦ omega arith
      | then-area-start-via-else-area-start+then-area-start-2 w ↦ omega (arith, c.body_size-size.ensures)
    ])

pub write_body-requires : goal.write_body-requires
write_body-requires c =
    (c.normal.ensures.holds c.if-not-normal.false, simp (lent-part, length-drop) (omega (arith, c.body_size-size.ensures)))

pub returns : goal.returns
returns c =
    let a = c.args in
    write_done a.t a.area.now a.start c.body_size-size.result _ (c.normal.ensures.holds c.if-not-normal.false) c.body_size-size.ensures
    (omega (arith, c.body_size-size.ensures)) (lent-over a.area.now (body_bytes a.t) c.write_body.new.part a.start c.write_body.ensures)

-- `replace` meets its contract: refused with no byte changed, or carried out as planned.
use mathlib.Core.Path.{refl, sym, subst}
use native.Mathlib.Omega.{arith}
use borrow.Author.Tests.{not-false, ltb-true}
use lib.Dec.{ltb}
use lib.ListN.{length, take}
use lib.Seq.{length-take-le}
use Rattle.contents.specs.Contents.{count_of}
use Rattle.book.proofs.Laws.Number.{contents-good}
use Rattle.edit_numbers.specs.Volume.{replace}
use Rattle.edit_numbers.specs.Number.{BookEdit}
use Rattle.edit_numbers.proofs.Laws.Passed.{passed}
use Rattle.edit.proofs.Laws.Done.{settleable, edits-done, edits-beyond, edits-refused}
use Rattle.edit.proofs.Laws.Bodies.{short-replaced}
use Rattle.edit.proofs.replace.Goals as goal

pub returns-then-room-n : goal.returns-then-room-n
returns-then-room-n c =
    let a = c.args in
    edits-beyond a.area.now a.n (replace a.j a.kind a.width a.body.now) c.refused.result c.if-room-n.true c.refused.ensures

pub slice_bounds-replacement-end-2 : goal.slice_bounds-replacement-end-2
slice_bounds-replacement-end-2 c =
    let a = c.args in
    sym (length-take-le a.n a.area.now (omega (arith, c.if-room-n.false)))

pub returns-then-k-ne0 : goal.returns-then-k-ne0
returns-then-k-ne0 c =
    let k = c.replacement-k in
    let a = c.args in
    edits-refused a.area.now a.n (replace a.j a.kind a.width a.body.now) c.refused-then-k-ne0.result (omega (arith, c.if-room-n.false)) k.result k.ensures c.if-k-ne0.true c.refused-then-k-ne0.ensures

pub slice_bounds-replacement-end-4 : goal.slice_bounds-replacement-end-4
slice_bounds-replacement-end-4 c =
    let a = c.args in
    sym (length-take-le a.n a.area.now (omega (arith, c.if-room-n.false)))

pub replacement-p-requires : goal.replacement-p-requires
replacement-p-requires c =
    let k = c.replacement-k in
    let a = c.args in
    let P = passed (take a.n a.area.now) (length a.area.now) (replace a.j a.kind a.width a.body.now) k.result k.ensures c.if-k-ne0.false in
    (record { good = contents-good _ 0 P.whole refl; short = short-replaced _ _ a.j a.kind a.width a.body.now P }, ltb-true _ _ (not-false (ltb a.j (count_of (take a.n a.area.now))) P.there))

pub settle-requires : goal.settle-requires
settle-requires c =
    let q = c.replacement-p in
    let k = c.replacement-k in
    let a = c.args in
    let P = passed (take a.n a.area.now) (length a.area.now) (replace a.j a.kind a.width a.body.now) k.result k.ensures c.if-k-ne0.false in
    settleable a.area.now a.n (omega (arith, c.if-room-n.false)) (replace a.j a.kind a.width a.body.now) P q.result a.body.now q.ensures

pub returns : goal.returns
returns c =
    let w = c.settle in
    let q = c.replacement-p in
    let k = c.replacement-k in
    let a = c.args in
    let xs = a.area.now in
    let z = c.if-k-ne0.false in
    let P = passed (take a.n xs) (length xs) (replace a.j a.kind a.width a.body.now) k.result k.ensures z in
    edits-done xs a.n (omega (arith, c.if-room-n.false)) (replace a.j a.kind a.width a.body.now) P q.result a.body.now q.ensures w.result w.new.area w.ensures (subst (BookEdit (take a.n xs) (length xs) (replace a.j a.kind a.width a.body.now)) z k.ensures)

-- `remove` meets its contract: refused with no byte changed, or carried out as planned.
use mathlib.Core.List.{[]}
use mathlib.Core.Path.{refl, sym, subst}
use native.Mathlib.Omega.{arith}
use borrow.Author.Tests.{not-false, ltb-true}
use lib.Dec.{ltb}
use lib.ListN.{length, take}
use lib.Seq.{length-take-le}
use Rattle.contents.specs.Contents.{count_of}
use Rattle.book.proofs.Laws.Number.{contents-good}
use Rattle.edit_numbers.specs.Volume.{remove}
use Rattle.edit_numbers.specs.Number.{BookEdit}
use Rattle.edit_numbers.proofs.Laws.Passed.{passed}
use Rattle.edit.proofs.Laws.Done.{settleable, edits-done, edits-beyond, edits-refused}
use Rattle.edit.proofs.remove.Goals as goal

pub returns-then-room-n : goal.returns-then-room-n
returns-then-room-n c =
    let a = c.args in
    edits-beyond a.area.now a.n (remove a.j) c.refused.result c.if-room-n.true c.refused.ensures

pub slice_bounds-removal-end-2 : goal.slice_bounds-removal-end-2
slice_bounds-removal-end-2 c =
    let a = c.args in
    sym (length-take-le a.n a.area.now (omega (arith, c.if-room-n.false)))

pub removal-k-requires : goal.removal-k-requires
removal-k-requires c =
    let a = c.args in
    omega (arith, c.if-room-n.false, length-take-le a.n a.area.now (omega (arith, c.if-room-n.false)))

pub returns-then-k-ne0 : goal.returns-then-k-ne0
returns-then-k-ne0 c =
    let k = c.removal-k in
    let a = c.args in
    edits-refused a.area.now a.n (remove a.j) c.refused-then-k-ne0.result (omega (arith, c.if-room-n.false)) k.result k.ensures c.if-k-ne0.true c.refused-then-k-ne0.ensures

pub slice_bounds-removal-end-4 : goal.slice_bounds-removal-end-4
slice_bounds-removal-end-4 c =
    let a = c.args in
    sym (length-take-le a.n a.area.now (omega (arith, c.if-room-n.false)))

pub removal-p-requires : goal.removal-p-requires
removal-p-requires c =
    let k = c.removal-k in
    let a = c.args in
    let P = passed (take a.n a.area.now) (length a.area.now) (remove a.j) k.result k.ensures c.if-k-ne0.false in
    (contents-good _ 0 P.whole refl, ltb-true _ _ (not-false (ltb a.j (count_of (take a.n a.area.now))) P.there))

pub settle-requires : goal.settle-requires
settle-requires c =
    let q = c.removal-p in
    let k = c.removal-k in
    let a = c.args in
    let P = passed (take a.n a.area.now) (length a.area.now) (remove a.j) k.result k.ensures c.if-k-ne0.false in
    settleable a.area.now a.n (omega (arith, c.if-room-n.false)) (remove a.j) P q.result [] q.ensures

pub returns : goal.returns
returns c =
    let w = c.settle in
    let q = c.removal-p in
    let k = c.removal-k in
    let a = c.args in
    let xs = a.area.now in
    let z = c.if-k-ne0.false in
    let P = passed (take a.n xs) (length xs) (remove a.j) k.result k.ensures z in
    edits-done xs a.n (omega (arith, c.if-room-n.false)) (remove a.j) P q.result [] q.ensures w.result w.new.area w.ensures (subst (BookEdit (take a.n xs) (length xs) (remove a.j)) z k.ensures)

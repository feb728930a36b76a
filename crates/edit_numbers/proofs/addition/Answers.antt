-- `addition` meets its contract: the book's number, the new body's, 9, then room.
use mathlib.Core.Bool.{not}
use mathlib.Core.Path.{refl, ap, subst}
use Prim.Native.Nat.{ℕ}
use native.Mathlib.Omega.{arith}
use borrow.Author.Tests.{lt-ltb, le-ltb}
use Rattle.contents.specs.Contents.{edition_of, count_of}
use Rattle.contents.proofs.Laws.Good.{good}
use Rattle.book.proofs.Laws.Number.{contents-good}
use Rattle.edit_numbers.specs.Volume.{add}
use Rattle.edit_numbers.specs.Inner.Tested.{NewNumber}
use Rattle.edit_numbers.proofs.Laws.Size.{size-added}
use Rattle.edit_numbers.proofs.Laws.Order.{whole-refused, new-refused, new-good, seventeenth-refused, room-tested}
use Rattle.edit_numbers.proofs.addition.Goals as goal

pub returns-then-whole-ne0 : goal.returns-then-whole-ne0
returns-then-whole-ne0 c =
    let a = c.args in
    whole-refused a.book.now a.room (add a.kind a.width a.body.now) c.test-whole.result c.test-whole.ensures c.if-whole-ne0.true

pub returns-then-own-ne0 : goal.returns-then-own-ne0
returns-then-own-ne0 c =
    let m = c.new_number-own in
    let d = c.edition in
    let t = c.test-whole in
    let a = c.args in
    let bs = a.book.now in
    new-refused bs a.room (add a.kind a.width a.body.now) t.result t.ensures c.if-whole-ne0.false
    refl a.kind a.width a.body.now m.result refl (λ o. o)
    (subst (λ (v : ℕ). NewNumber v a.kind a.width a.body.now m.result) d.ensures m.ensures) c.if-own-ne0.true

pub returns-then-full : goal.returns-then-full
returns-then-full c =
    let n = c.count-full in
    let m = c.new_number-own in
    let d = c.edition in
    let t = c.test-whole in
    let a = c.args in
    let bs = a.book.now in
    let N = subst (λ (v : ℕ). NewNumber v a.kind a.width a.body.now m.result) d.ensures m.ensures in
    let g = new-good (edition_of bs) a.kind a.width a.body.now m.result N c.if-own-ne0.false in
    seventeenth-refused bs a.room (add a.kind a.width a.body.now) t.result t.ensures c.if-whole-ne0.false refl
    (ap not g) m.result (N.own g) c.if-own-ne0.false (lt-ltb 15 (count_of bs) (omega (arith, n.ensures, c.if-full.true)))

pub room_number-requires : goal.room_number-requires
room_number-requires c =
    let t = c.test-whole in
    let a = c.args in
    let bs = a.book.now in
    omega (arith, (good bs (contents-good bs t.result t.ensures c.if-whole-ne0.false)).short)

pub returns : goal.returns
returns c =
    let n = c.count-full in
    let m = c.new_number-own in
    let d = c.edition in
    let t = c.test-whole in
    let a = c.args in
    let bs = a.book.now in
    let tz = c.if-whole-ne0.false in
    let z = contents-good bs t.result t.ensures tz in
    let N = subst (λ (v : ℕ). NewNumber v a.kind a.width a.body.now m.result) d.ensures m.ensures in
    let g = new-good (edition_of bs) a.kind a.width a.body.now m.result N c.if-own-ne0.false in
    room-tested bs a.room (add a.kind a.width a.body.now) t.result t.ensures tz refl
    (ap not g) m.result (N.own g) c.if-own-ne0.false (le-ltb 15 (count_of bs) (omega (arith, n.ensures, c.if-full.false)))
    c.room_number.result _ c.room_number.ensures (size-added bs z a.kind a.width a.body.now)

-- `replacement` meets its contract: the book's number, 14, the new body's, then room.
use mathlib.Core.Bool.{not}
use mathlib.Core.Path.{refl, ap, subst}
use Prim.Native.Nat.{ℕ, ◌<◌}
use native.Mathlib.Omega.{arith}
use borrow.Author.Tests.{lt-ltb, le-ltb}
use Rattle.contents.specs.Contents.{edition_of, count_of}
use Rattle.book.proofs.Laws.Number.{contents-good}
use Rattle.edit_numbers.specs.Volume.{replace}
use Rattle.edit_numbers.specs.Inner.Tested.{NewNumber}
use Rattle.edit_numbers.proofs.Laws.Size.{size-replaced, entry-short}
use Rattle.edit_numbers.proofs.Laws.Order.{whole-refused, body-missing, new-refused, new-good, room-tested}
use Rattle.edit_numbers.proofs.replacement.Goals as goal

pub returns-then-whole-ne0 : goal.returns-then-whole-ne0
returns-then-whole-ne0 c =
    let a = c.args in
    whole-refused a.book.now a.room (replace a.j a.kind a.width a.body.now) c.test-whole.result c.test-whole.ensures c.if-whole-ne0.true

pub returns-then-j-count : goal.returns-then-j-count
returns-then-j-count c =
    let t = c.test-whole in
    let a = c.args in
    body-missing a.book.now a.room (replace a.j a.kind a.width a.body.now) t.result t.ensures c.if-whole-ne0.false
    (ap not (le-ltb a.j (count_of a.book.now) (omega (arith, c.count.ensures))))

pub returns-then-own-ne0 : goal.returns-then-own-ne0
returns-then-own-ne0 c =
    let d = c.edition in
    let n = c.count in
    let t = c.test-whole in
    let a = c.args in
    let bs = a.book.now in
    new-refused bs a.room (replace a.j a.kind a.width a.body.now) t.result t.ensures c.if-whole-ne0.false
    (ap not (lt-ltb a.j (count_of bs) (omega (arith, n.ensures, c.if-j-count.false)))) a.kind a.width a.body.now c.new_number-own.result refl (λ o. o)
    (subst (λ (v : ℕ). NewNumber v a.kind a.width a.body.now c.new_number-own.result) d.ensures c.new_number-own.ensures) c.if-own-ne0.true

pub overflow_sub-book : goal.overflow_sub-book
overflow_sub-book c =
    let e = c.entry_at-e in
    let n = c.count in
    let t = c.test-whole in
    let a = c.args in
    let bs = a.book.now in
    let z = contents-good bs t.result t.ensures c.if-whole-ne0.false in
    (entry-short bs z a.j (omega (arith, n.ensures, c.if-j-count.false)) e.result e.ensures).0

pub room_number-requires : goal.room_number-requires
room_number-requires c =
    let e = c.entry_at-e in
    let n = c.count in
    let t = c.test-whole in
    let a = c.args in
    let bs = a.book.now in
    let z = contents-good bs t.result t.ensures c.if-whole-ne0.false in
    omega (arith, (entry-short bs z a.j (omega (arith, n.ensures, c.if-j-count.false)) e.result e.ensures).1)

pub returns : goal.returns
returns c =
    let e = c.entry_at-e in
    let m = c.new_number-own in
    let d = c.edition in
    let n = c.count in
    let t = c.test-whole in
    let a = c.args in
    let bs = a.book.now in
    let tz = c.if-whole-ne0.false in
    let z = contents-good bs t.result t.ensures tz in
    let l : a.j < count_of bs = omega (arith, n.ensures, c.if-j-count.false) in
    let N = subst (λ (v : ℕ). NewNumber v a.kind a.width a.body.now m.result) d.ensures m.ensures in
    let g = new-good (edition_of bs) a.kind a.width a.body.now m.result N c.if-own-ne0.false in
    room-tested bs a.room (replace a.j a.kind a.width a.body.now) t.result t.ensures tz (ap not (lt-ltb a.j (count_of bs) l))
    (ap not g) m.result (N.own g) c.if-own-ne0.false refl c.room_number.result _ c.room_number.ensures
    (size-replaced bs z a.j l e.result e.ensures a.kind a.width a.body.now)

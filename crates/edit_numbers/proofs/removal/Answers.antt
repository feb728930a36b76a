-- `removal` meets its contract: the book's number, then 14; what is left has room because the book had.
use mathlib.Core.Bool.{not}
use mathlib.Core.Path.{refl, ap}
use native.Mathlib.Omega.{arith}
use borrow.Author.Tests.{lt-ltb, le-ltb}
use Rattle.contents.specs.Contents.{count_of}
use Rattle.contents.proofs.Laws.Good.{good}
use Rattle.book.proofs.Laws.Number.{contents-good}
use Rattle.edit_numbers.specs.Volume.{remove}
use Rattle.edit_numbers.specs.Number.{size_after}
use Rattle.edit_numbers.proofs.Laws.Size.{size-removed}
use Rattle.edit_numbers.proofs.Laws.Order.{whole-refused, body-missing, room-tested, room-none}
use Rattle.edit_numbers.proofs.removal.Goals as goal

pub returns-then-whole-ne0 : goal.returns-then-whole-ne0
returns-then-whole-ne0 c =
    let a = c.args in
    whole-refused a.book.now a.room (remove a.j) c.test-whole.result c.test-whole.ensures c.if-whole-ne0.true

pub returns-then-j-count : goal.returns-then-j-count
returns-then-j-count c =
    let t = c.test-whole in
    let a = c.args in
    body-missing a.book.now a.room (remove a.j) t.result t.ensures c.if-whole-ne0.false
    (ap not (le-ltb a.j (count_of a.book.now) (omega (arith, c.count.ensures))))

pub returns : goal.returns
returns c =
    let t = c.test-whole in
    let a = c.args in
    let bs = a.book.now in
    let z = contents-good bs t.result t.ensures c.if-whole-ne0.false in
    let size = size_after bs (remove a.j) in
    let less = size-removed bs z a.j (omega (arith, c.count.ensures)) in
    room-tested bs a.room (remove a.j) t.result t.ensures c.if-whole-ne0.false
    (ap not (lt-ltb a.j (count_of bs) (omega (arith, c.count.ensures)))) refl 0 refl refl refl
    0 size (room-none a.room size (omega (arith, less, (good bs z).short)) (omega (arith, less, c.requires))) refl

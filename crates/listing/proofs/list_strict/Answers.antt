-- `listing::list_strict` meets its contract: the book refused in a single line, or the lines of all bodies.
use borrow.Author.Rules.{rules}
use native.Mathlib.Omega.{arith}
use Rattle.book.proofs.Laws.Number.{contents-good}
use Rattle.listing.proofs.Laws.Whole.{listed-strict, single-strict}
use Rattle.listing.proofs.list_strict.Goals as goal

pub returns-then-number-ne0 : goal.returns-then-number-ne0
returns-then-number-ne0 c =
    let t = c.test-number in
    single-strict _ _ _ _ _ _ c.over-text.ensures.begun (search rules) c.place.ensures t.result t.ensures (omega arith) c.if-number-ne0.true c.refused_line.ensures

pub list_bodies-requires : goal.list_bodies-requires
list_bodies-requires c =
    let t = c.test-number in
    contents-good c.args.book.now t.result t.ensures c.if-number-ne0.false

pub returns : goal.returns
returns c =
    let t = c.test-number in
    listed-strict _ _ _ _ _ _ c.over-text.ensures.begun (search rules) c.place-2.ensures t.result t.ensures c.if-number-ne0.false c.list_bodies.ensures

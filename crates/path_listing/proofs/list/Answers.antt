-- `list` meets its contract: the book refused in a single line, or the lines of all tables.
use borrow.Author.Rules.{rules}
use native.Mathlib.Omega.{arith}
use Rattle.book.proofs.Laws.Number.{contents-good}
use Rattle.path_listing.proofs.Laws.Whole.{listed, single}
use Rattle.path_listing.proofs.list.Goals as goal

pub returns-then-number-ne0 : goal.returns-then-number-ne0
returns-then-number-ne0 c =
    let t = c.test-number in
    single _ _ _ _ _ _ c.over-text.ensures.begun (search rules) c.place.ensures t.result t.ensures (omega arith) c.if-number-ne0.true c.refused_line.ensures

pub list_tables-requires : goal.list_tables-requires
list_tables-requires c =
    let t = c.test-number in
    contents-good c.args.book.now t.result t.ensures c.if-number-ne0.false

pub returns : goal.returns
returns c =
    let t = c.test-number in
    listed _ _ _ _ _ _ c.over-text.ensures.begun (search rules) c.place-2.ensures t.result t.ensures c.if-number-ne0.false c.list_tables.ensures

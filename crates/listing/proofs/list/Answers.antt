-- `listing::list` meets its contract: the contents refused in a single line, or the lines of all bodies.
use borrow.Author.Rules.{rules}
use native.Mathlib.Omega.{arith}
use mathlib.Core.Path.{sym, ◌∙◌}
use Rattle.listing.proofs.Laws.Whole.{listed, single}
use Rattle.listing.proofs.list.Goals as goal

pub returns-then-front-ne0 : goal.returns-then-front-ne0
returns-then-front-ne0 c =
    let t = c.test-front in
    single _ _ _ _ _ _ c.over-text.ensures.begun (search rules) c.place.ensures t.result (omega arith) t.ensures c.if-front-ne0.true c.refused_line.ensures

pub list_bodies-requires : goal.list_bodies-requires
list_bodies-requires c = sym c.test-front.ensures ∙ c.if-front-ne0.false

pub returns : goal.returns
returns c =
    let t = c.test-front in
    listed _ _ _ _ _ _ c.over-text.ensures.begun (search rules) c.place-2.ensures (sym t.ensures ∙ c.if-front-ne0.false) c.list_bodies.ensures

-- `test` meets its contract: no body before body j is refused.
use mathlib.Core.Path.{sym, subst, ◌∙◌}
use native.Mathlib.Omega.{arith}
use Rattle.book.specs.Book.{BodyNumber}
use Rattle.book.proofs.Laws.Number.{clear_none, clear_next, book-contents, book-refused, book-clear}
use Rattle.book.proofs.test.Goals as goal

pub returns-then-front-ne0 : goal.returns-then-front-ne0
returns-then-front-ne0 c = book-contents c.args.book.now c.test-front.result c.test-front.ensures c.if-front-ne0.true

pub loop-j-init : goal.loop-j-init
loop-j-init c = clear_none c.args.book.now

pub fault_at-k-requires : goal.fault_at-k-requires
fault_at-k-requires c =
    (sym c.test-front.ensures ∙ c.if-front-ne0.false, omega (arith, c.count-n.ensures))

pub returns-then-k-ne0 : goal.returns-then-k-ne0
returns-then-k-ne0 c =
    let k = c.fault_at-k in
    book-refused c.args.book.now c.loop-j.j k.result (sym c.test-front.ensures ∙ c.if-front-ne0.false) (omega (arith, c.count-n.ensures)) c.loop-j.invariant k.ensures c.if-k-ne0.true

pub loop-j-preserved : goal.loop-j-preserved
loop-j-preserved c =
    let bs = c.args.book.now in
    let l = c.loop-j in
    clear_next bs l.j l.invariant (subst (BodyNumber bs l.j) c.if-k-ne0.false c.fault_at-k.ensures)

pub returns : goal.returns
returns c = book-clear c.args.book.now c.loop-j.j (sym c.test-front.ensures ∙ c.if-front-ne0.false) (omega (arith, c.count-n.ensures)) c.loop-j.invariant

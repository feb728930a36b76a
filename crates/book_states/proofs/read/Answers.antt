-- `read` meets its contract: the number of the contents, then 14, then what the body answers.
use native.Mathlib.Omega.{arith}
use mathlib.Core.Path.{sym, ◌∙◌}
use Rattle.book.proofs.Laws.Read.{reads-refused, reads-beyond, reads-answer}
use Rattle.book_states.proofs.read.Goals as goal

pub returns-then-refusal-ne0 : goal.returns-then-refusal-ne0
returns-then-refusal-ne0 c =
    let a = c.args in
    let t = c.test-refusal in
    reads-refused a.book.now a.j c.refused.result t.result t.ensures c.if-refusal-ne0.true c.refused.ensures

pub returns-then-j-count : goal.returns-then-j-count
returns-then-j-count c =
    let a = c.args in
    let t = c.test-refusal in
    reads-beyond a.book.now a.j c.refused-then-j-count.result (sym t.ensures ∙ c.if-refusal-ne0.false) (omega (arith, c.count.ensures)) c.refused-then-j-count.ensures

pub body_in-requires : goal.body_in-requires
body_in-requires c =
    let t = c.test-refusal in
    (sym t.ensures ∙ c.if-refusal-ne0.false, omega (arith, c.count.ensures))

pub returns : goal.returns
returns c =
    let a = c.args in
    let t = c.test-refusal in
    reads-answer a.book.now a.j c.body_in.result (sym t.ensures ∙ c.if-refusal-ne0.false) (omega (arith, c.count.ensures)) c.body_in.ensures

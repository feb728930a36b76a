-- `read_strict` meets its contract: the book's number, then what the body answers on its own.
use Rattle.book.proofs.Laws.Read.{strict-refused, strict-read}
use Rattle.book_states.proofs.read_strict.Goals as goal

pub returns-then-number-ne0 : goal.returns-then-number-ne0
returns-then-number-ne0 c =
    let a = c.args in
    let t = c.test-number in
    strict-refused a.book.now a.j t.result c.refused.result t.ensures c.if-number-ne0.true c.refused.ensures

pub returns : goal.returns
returns c =
    let a = c.args in
    let t = c.test-number in
    strict-read a.book.now a.j t.result c.read.result t.ensures c.if-number-ne0.false c.read.ensures

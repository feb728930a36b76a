-- `table_body` meets its contract: by the number of the reading.
use Rattle.book_bodies.proofs.Laws.Table.{table-refused, table-whole}
use Rattle.book_bodies.proofs.table_body.Goals as goal

pub returns-else-fault-eq0 : goal.returns-else-fault-eq0
returns-else-fault-eq0 c =
    let a = c.args in
    table-refused a.width a.part.now c.read-r.result c.read-r.ensures c.if-fault-eq0.false

pub returns-then-fault-eq0 : goal.returns-then-fault-eq0
returns-then-fault-eq0 c =
    let a = c.args in
    table-whole a.width a.part.now c.read-r.result c.read-r.ensures c.if-fault-eq0.true

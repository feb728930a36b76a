-- `table_fault` meets its contract: by the reading's number.
use Rattle.book_bodies.proofs.Laws.Table.{table-number}
use Rattle.book_bodies.proofs.table_fault.Goals as goal

pub returns : goal.returns
returns c = table-number _ _ c.read-r.result c.read-r.ensures

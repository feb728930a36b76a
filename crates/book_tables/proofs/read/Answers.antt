-- `read` meets its contract: what is read, named.
use Rattle.book_tables.proofs.read.Goals as goal

pub returns : goal.returns
returns c = record { body = c.read.result; read = c.read.ensures; names = c.name_body.ensures }

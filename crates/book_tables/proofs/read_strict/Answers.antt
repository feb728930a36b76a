-- `read_strict` meets its contract: what is read, named.
use Rattle.book_tables.proofs.read_strict.Goals as goal

pub returns : goal.returns
returns c = record { body = c.read_strict.result; read = c.read_strict.ensures; names = c.name_body.ensures }

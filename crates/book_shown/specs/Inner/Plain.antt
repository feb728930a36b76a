-- A body of a book as it is shown: without its table's labels.
use Rattle.book_bodies.specs.declared.Body.{Body as StateBody}
use Rattle.book_tables.specs.declared.Body.{Body}

abbrev pub plain : Body → StateBody
plain r = record { said = r.said; table = r.table.state }

-- The first line and the lines of all bodies, laid by a writer t that is now u.
use Rattle.std.specs.Prelude.{List, ◌++◌, ℕ, ◌<◌}
use Rattle.contents.specs.Contents.{count_of}
use Rattle.lines_words.specs.declared.Text.{Text}
use Rattle.lines_words.specs.Inner.Writer.{Lays}
use Rattle.lines.specs.Lines.{book_line}
use Rattle.book_bodies.specs.declared.Body.{Body}
use Rattle.book.specs.Read.{ReadsBody}
use Rattle.listing.specs.Listing.{body_lines}

pub record BodiesListed (bs : List ℕ) (t u : Text) : Type 0 where
  pub bodies : ℕ → Body
  pub read : (j : ℕ) → j < count_of bs → ReadsBody bs j (bodies j)
  pub lays : Lays t (book_line (count_of bs) ++ body_lines (count_of bs) bodies) u

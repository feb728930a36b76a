-- What a writer t that is now u lays of one body, and of all.
use Rattle.std.specs.Prelude.{List, ◌≡◌, ℕ, ◌≤◌}
use Rattle.lines_words.specs.declared.Text.{Text}
use Rattle.lines_words.specs.Overlay.{top}
use Rattle.lines_words.specs.Inner.Writer.{Lays}
use Rattle.book_bodies.specs.declared.Said.TheVariants.{Whole}
use Rattle.book_bodies.specs.declared.Body.{Body}
use Rattle.path_listing.specs.Listing.{Halves, Answers, body_text, Tables}

-- the line of body j
pub record BodyLined (t : Text) (j : ℕ) (b : Body) (u : Text) : Type 0 where
  pub halves : Halves
  pub answers : b.said ≡ Whole → Answers b.table halves
  -- a place is a number of 64 bits
  pub lays : t.at ≤ top → Lays t (body_text j b.said halves) u

-- the first line and the lines of all tables
pub record TablesListed (bs : List ℕ) (t u : Text) : Type 0 where
  pub text : List ℕ
  pub tables : Tables bs text
  pub lays : Lays t text u

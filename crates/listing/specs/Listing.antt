-- The listing of a book as text: the count, a line for each body; or the single line of a refused book.
use Rattle.std.specs.Prelude.{List, [], ◌++◌, ◌≢◌, ◌≡◌, ℕ, zero, suc, ◌≤◌, ◌<◌, length}
use Rattle.exact.specs.Refusal.{accepted}
use Rattle.contents.specs.Contents.{count_of, contents_number}
use Rattle.lines_words.specs.Overlay.{TextLaid}
use Rattle.lines.specs.Lines.{book_line, refused_line}
use Rattle.book_bodies.specs.declared.Body.{Body}
use Rattle.listing_line.specs.Line.{body_line}
use Rattle.book.specs.Book.{BookNumber}
use Rattle.book.specs.Read.{ReadsBody}

-- the lines of the first n bodies
unfoldable pub body_lines : ℕ → (ℕ → Body) → List ℕ
body_lines zero f = []
body_lines (suc n) f = body_lines n f ++ body_line n (f n).said (f n).table

-- "First line `book` and the count. Then for each body"; "the default is one line per body, `1 refused 7` in place of the answer, and the rest goes on; faults of header or contents still refuse the whole"
pub record Listing (bs text : List ℕ) : Type 0 where
  pub bodies : ℕ → Body
  pub read : (j : ℕ) → j < count_of bs → ReadsBody bs j (bodies j)
  pub refused : contents_number bs ≢ accepted → text ≡ refused_line (contents_number bs)
  pub listed : contents_number bs ≡ accepted → text ≡ book_line (count_of bs) ++ body_lines (count_of bs) bodies

-- "A refused book gives the single line `refused` and the number.": "all or nothing", "the strict reading by name, which stays"
pub record StrictListing (bs text : List ℕ) : Type 0 where
  pub number : ℕ
  pub tested : BookNumber bs number
  pub refused : number ≢ accepted → text ≡ refused_line number
  pub listed : number ≡ accepted → Listing bs text

-- a listing of a book, by what it is to be, shown at the front of an area xs that is now ys; r is its length
pub record ListedAs (Is : List ℕ → Type 0) (xs ys : List ℕ) (r : ℕ) : Type 0 where
  pub text : List ℕ
  pub listing : Is text
  pub laid : TextLaid xs 0 text ys r
  -- a line for each of at most 16 bodies: `15 T 64 64 -2000 7` has 19 bytes with its newline, and `book 16` has 8
  pub short : length text ≤ 312

abbrev pub Listed : List ℕ → List ℕ → List ℕ → ℕ → Type 0
Listed bs = ListedAs (Listing bs)

abbrev pub ListedStrict : List ℕ → List ℕ → List ℕ → ℕ → Type 0
ListedStrict bs = ListedAs (StrictListing bs)

-- The listing of the paths of a book: the count, a line for each table; or the single line of a refused book.
use Rattle.std.specs.Prelude.{List, [], ◌++◌, ◌≢◌, ◌≡◌, ℕ, zero, suc, ◌≤◌, ◌<◌, length, Result, Ok, Err}
use Rattle.exact.specs.Refusal.{accepted}
use Rattle.exact.specs.Code.{code_of}
use Rattle.exact.specs.declared.Refusal.{Refusal}
use Rattle.exact.specs.declared.Answer.{Answer}
use Rattle.contents.specs.Contents.{count_of}
use Rattle.lines_words.specs.Overlay.{TextLaid}
use Rattle.lines.specs.Lines.{book_line, refused_line}
use Rattle.book_bodies.specs.declared.Said.{Said}
use Rattle.book_bodies.specs.declared.Said.TheVariants.{Refused, Circuit, Record, Whole}
use Rattle.book_bodies.specs.declared.Body.{Body}
use Rattle.book.specs.Book.{BookNumber}
use Rattle.book.specs.Read.{ReadsBody}
use Rattle.state.specs.declared.State.{State}
use Rattle.path_sum.specs.declared.PathSum.{PathSum}
use Rattle.path_sum.specs.Paths.{PathsAdded}
use Rattle.path_away.specs.Away.{SummedAway}
use Rattle.path_lines.specs.Lines.{path_line}

-- the two halves of a table's line
pub record Halves : Type 0 where
  pub paths : Result PathSum Refusal
  pub summed : Answer

-- what each half answers of a table
pub record Answers (t : State) (h : Halves) : Type 0 where
  pub paths : PathsAdded t h.paths
  pub summed : SummedAway t h.summed

-- the paths of a table, a refusal by its number
abbrev pub numbered : Result PathSum Refusal → Result PathSum ℕ
numbered (Ok s) = Ok s
numbered (Err r) = Err (code_of r)

-- "for each table body a line"; other bodies have none
unfoldable pub body_text : ℕ → Said → Halves → List ℕ
body_text j (Refused k) h = []
body_text j (Circuit a) h = []
body_text j (Record c) h = []
body_text j Whole h = path_line j (numbered h.paths) h.summed

-- the lines of the tables among the first n bodies
unfoldable pub table_lines : ℕ → (ℕ → Body) → (ℕ → Halves) → List ℕ
table_lines zero f g = []
table_lines (suc n) f g = table_lines n f g ++ body_text n (f n).said (g n)

-- "the same first line, then for each table body a line"
pub record Tables (bs text : List ℕ) : Type 0 where
  pub bodies : ℕ → Body
  pub read : (j : ℕ) → j < count_of bs → ReadsBody bs j (bodies j)
  pub halves : ℕ → Halves
  pub answers : (j : ℕ) → j < count_of bs → (bodies j).said ≡ Whole → Answers (bodies j).table (halves j)
  pub listed : text ≡ book_line (count_of bs) ++ table_lines (count_of bs) bodies halves

-- "Programs that relied on all or nothing (A5's sister program is one) call the strict reading by name": "A refused book gives the single line `refused` and the number."
pub record PathListing (bs text : List ℕ) : Type 0 where
  pub number : ℕ
  pub tested : BookNumber bs number
  pub refused : number ≢ accepted → text ≡ refused_line number
  pub listed : number ≡ accepted → Tables bs text

-- the listing of a book's paths, shown at the front of an area xs that is now ys; r is its length
pub record PathsListed (bs xs ys : List ℕ) (r : ℕ) : Type 0 where
  pub text : List ℕ
  pub listing : PathListing bs text
  pub laid : TextLaid xs 0 text ys r
  -- a line for each of at most 16 tables: 55 bytes hold four numbers of 8, a power of 5 and `refused 5`; `book 16` has 8
  pub short : length text ≤ 888

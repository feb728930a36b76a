-- Reading a body of a book: refused by what stands before it, or what the body answers on its own.
use Rattle.std.specs.Prelude.{List, ◌≢◌, ◌≡◌, ℕ, ◌≤◌, ◌<◌}
use Rattle.exact.specs.Refusal.{accepted, no_body}
use Rattle.contents.specs.Contents.{edition_of, count_of, kind_of, width_of, contents_number}
use Rattle.book_bodies.specs.declared.Body.{Body}
use Rattle.book_bodies.specs.Answer.{refusal, BodyAnswer}
use Rattle.book.specs.Book.{bytes_of, BookNumber}

-- r is what reading body j answers, whatever the other bodies are. "one line per body, `1 refused 7` in place of the answer, and the rest goes on; faults of header or contents still refuse the whole"
pub record ReadsBody (bs : List ℕ) (j : ℕ) (r : Body) : Type 0 where
  pub refused : contents_number bs ≢ accepted → r ≡ refusal (contents_number bs)
  -- 14: "no body of that number"
  pub beyond : contents_number bs ≡ accepted → count_of bs ≤ j → r ≡ refusal no_body
  pub answer : contents_number bs ≡ accepted → j < count_of bs → BodyAnswer (edition_of bs) (kind_of bs j) (width_of bs j) (bytes_of bs j) r

-- r is what the strict reading of body j answers. "all or nothing": "the whole book is tested before any body is answered", "book refusals, then 14"
pub record ReadsStrict (bs : List ℕ) (j : ℕ) (r : Body) : Type 0 where
  pub number : ℕ
  pub tested : BookNumber bs number
  pub refused : number ≢ accepted → r ≡ refusal number
  pub read : number ≡ accepted → ReadsBody bs j r

-- Why a book is refused: "Books: 9, contents in order, then bodies in order". The answer is the first fault in that order, by its place and cause.
use Rattle.std.specs.Prelude.{List, ◌≢◌, ◌⊎◌, ◌≡◌, ℕ, ◌+◌, ◌*◌, ◌≤◌, ◌<◌, Option, Some, None, Result, Ok, Err}
use Rattle.exact.specs.Refusal.{accepted}
use Rattle.contents.specs.Contents.{edition_of, count_of, kind_of, width_of, start_of, contents_number}
use Rattle.book.specs.Book.{bytes_of}
use Rattle.cause.specs.declared.Cause.TheVariants.{NoBody}
use Rattle.cause.specs.Cause.{Finding, number_of, found, sound, found_number}
use Rattle.cause_contents.specs.Contents.{contents_found}
use Rattle.cause_circuit.specs.Circuit.{circuit_found, record_found}
use Rattle.cause_table.specs.Table.{TableFound}
pub use Rattle.cause_book.specs.declared.Reason.{Reason}

-- no fault, or why a book or a body of it is refused
abbrev pub Why : Type 0
Why = Result Unit Reason

-- a fault of a body, or of none, as it is answered
abbrev pub why_of : Option ℕ → Finding → Why
why_of b (Ok u) = Ok tt
why_of b (Err f) = Err (record { body = b; fault = f })

-- its number, 0 where there is none
abbrev pub why_number : Why → ℕ
why_number (Ok u) = accepted
why_number (Err r) = number_of r.fault.cause

-- f is the first fault of body j on its own, from its start on; its width stands at byte 5 + 8j of the contents. "kind (1 circuit, 2 table)"; "Body kind 3 in edition 2"
pub record BodyFound (bs : List ℕ) (j : ℕ) (f : Finding) : Type 0 where
  pub circuit : kind_of bs j ≡ 1 → f ≡ circuit_found (start_of bs j) (5 + 8 * j) (edition_of bs) (width_of bs j) (bytes_of bs j)
  pub table : kind_of bs j ≡ 2 → TableFound (start_of bs j) (5 + 8 * j) (width_of bs j) (bytes_of bs j) f
  pub recorded : kind_of bs j ≡ 3 → f ≡ record_found (start_of bs j) (5 + 8 * j) (width_of bs j) (bytes_of bs j)

-- none of the first n bodies has a fault
abbrev pub Unfaulted : List ℕ → ℕ → Type 0
Unfaulted bs n = (i : ℕ) → i < n → BodyFound bs i sound

-- "bodies in order": the first body that has a fault, and its first fault
pub record FirstFault (bs : List ℕ) (r : Why) : Type 0 where
  pub at : ℕ
  pub below : at < count_of bs
  pub before : Unfaulted bs at
  pub fault : Finding
  pub here : BodyFound bs at fault
  pub faulty : found_number fault ≢ accepted
  pub is : r ≡ why_of (Some at) fault

-- r is why the book is refused: "Books: 9, contents in order, then bodies in order"
pub record BookWhy (bs : List ℕ) (r : Why) : Type 0 where
  pub contents : contents_number bs ≢ accepted → r ≡ why_of None (contents_found bs)
  pub bodies : contents_number bs ≡ accepted → ((r ≡ why_of None sound) × Unfaulted bs (count_of bs)) ⊎ FirstFault bs r

-- r is why body j is refused, whatever the other bodies are. "one line per body, `1 refused 7` in place of the answer, and the rest goes on; faults of header or contents still refuse the whole"
pub record BodyWhy (bs : List ℕ) (j : ℕ) (r : Why) : Type 0 where
  pub refused : contents_number bs ≢ accepted → r ≡ why_of None (contents_found bs)
  -- 14: "no body of that number": the byte is the count's
  pub beyond : contents_number bs ≡ accepted → count_of bs ≤ j → r ≡ why_of None (found NoBody 0 3)
  pub fault : Finding
  pub here : contents_number bs ≡ accepted → j < count_of bs → BodyFound bs j fault
  pub is : contents_number bs ≡ accepted → j < count_of bs → r ≡ why_of (Some j) fault

-- The bodies of a book: their bytes, the number that refuses each, and the number that refuses the book.
use Rattle.std.specs.Prelude.{List, ◌≢◌, ◌⊎◌, ◌≡◌, ℕ, ◌<◌, take, drop}
use Rattle.exact.specs.Refusal.{accepted}
use Rattle.contents.specs.Contents.{edition_of, count_of, kind_of, width_of, length_of, start_of, contents_number}
use Rattle.book_bodies.specs.Number.{circuit_body_number, record_body_number, TableNumber}

-- the bytes of body j: "length (16 bits), start (32 bits)"
unfoldable pub bytes_of : List ℕ → ℕ → List ℕ
bytes_of bs j = take (length_of bs j) (drop (start_of bs j) bs)

-- ---- the bodies and the book
-- k is the number of body j, 0 where it is not refused. "kind (1 circuit, 2 table)"; "Body kind 3 in edition 2"
pub record BodyNumber (bs : List ℕ) (j k : ℕ) : Type 0 where
  pub circuit : kind_of bs j ≡ 1 → k ≡ circuit_body_number (edition_of bs) (width_of bs j) (bytes_of bs j)
  pub table : kind_of bs j ≡ 2 → TableNumber (width_of bs j) (bytes_of bs j) k
  pub recorded : kind_of bs j ≡ 3 → k ≡ record_body_number (width_of bs j) (bytes_of bs j)

-- none of the first n bodies is refused
abbrev pub Clear : List ℕ → ℕ → Type 0
Clear bs n = (i : ℕ) → i < n → BodyNumber bs i accepted

-- "bodies in order": the first body that is refused is refused by k
pub record Refuses (bs : List ℕ) (k : ℕ) : Type 0 where
  pub at : ℕ
  pub below : at < count_of bs
  pub before : Clear bs at
  pub here : BodyNumber bs at k
  pub refused : k ≢ accepted

-- k is the number of the bodies, 0 where none is refused
abbrev pub BodiesNumber : List ℕ → ℕ → Type 0
BodiesNumber bs k = ((k ≡ accepted) × Clear bs (count_of bs)) ⊎ Refuses bs k

-- k is the number of the book. "Books: 9, contents in order, then bodies in order"
pub record BookNumber (bs : List ℕ) (k : ℕ) : Type 0 where
  pub contents : contents_number bs ≢ accepted → k ≡ contents_number bs
  pub bodies : contents_number bs ≡ accepted → BodiesNumber bs k

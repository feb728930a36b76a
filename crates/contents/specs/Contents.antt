-- A book's header and contents as its bytes state them, and the number that refuses them: "Contents first, then bodies".
use Rattle.std.specs.Prelude.{Bool, false, not, ◌&&◌, ◌||◌, List, [], ◌∷◌, ℕ, zero, suc, ◌+◌, ◌*◌, eqb, ltb, length}
use Rattle.exact.specs.Refusal.{bad_header, bad_contents, first, ◌gives◌}
use Rattle.exact.specs.Sum.{total}
use Rattle.editions.specs.Edition.{good_edition}
use Rattle.fields.specs.Bytes.{byte_at, number}
pub use Rattle.contents.specs.declared.Entry.{Entry}

-- "Bytes 0–3: 51 4E, edition 01, count k (0..16)", byte 2; "9 for an edition other than 1 or 2"
unfoldable pub edition_of : List ℕ → ℕ
edition_of bs = byte_at bs 2

-- "count k (0..16)", byte 3
unfoldable pub count_of : List ℕ → ℕ
count_of bs = byte_at bs 3

-- "Then k entries of 8 bytes: kind (1 circuit, 2 table), width, length (16 bits), start (32 bits)."
unfoldable pub kind_of : List ℕ → ℕ → ℕ
kind_of bs j = byte_at bs (4 + 8 * j)

unfoldable pub width_of : List ℕ → ℕ → ℕ
width_of bs j = byte_at bs (4 + 8 * j + 1)

unfoldable pub length_of : List ℕ → ℕ → ℕ
length_of bs j = number 2 bs (4 + 8 * j + 2)

unfoldable pub start_of : List ℕ → ℕ → ℕ
start_of bs j = number 4 bs (4 + 8 * j + 4)

-- entry j as a value
abbrev pub entry_of : List ℕ → ℕ → Entry
entry_of bs j = record { kind = kind_of bs j; width = width_of bs j; start = start_of bs j; length = length_of bs j }

-- "Bodies follow in order without gaps": the contents' end, and the lengths of the bodies before j
unfoldable pub body_start : List ℕ → ℕ → ℕ
body_start bs j = 4 + 8 * count_of bs + total j (length_of bs)

-- f holds of some number below n
unfoldable pub any_below : ℕ → (ℕ → Bool) → Bool
any_below zero f = false
any_below (suc n) f = any_below n f || f n

-- 9: "book shorter than 4 or longer than 60,000 bytes, wrong letters, edition, or count"
unfoldable pub header_fault : List ℕ → Bool
header_fault bs =
    ltb (length bs) 4
    || ltb 60000 (length bs)
    || not (eqb (byte_at bs 0) 0x51)
    || not (eqb (byte_at bs 1) 0x4E)
    || not (good_edition (edition_of bs))
    || ltb 16 (count_of bs)

-- "kind (1 circuit, 2 table)"; "Body kind 3 in edition 2"
unfoldable pub good_kind : ℕ → ℕ → Bool
good_kind ed k = eqb k 1 || eqb k 2 || (eqb ed 2 && eqb k 3)

-- 10: "kind, start, end beyond the book", of an entry whose body is to start at a place of a book of an edition and so many bytes
unfoldable pub fault_at : ℕ → Entry → ℕ → ℕ → Bool
fault_at ed e from size = not (good_kind ed e.kind) || not (eqb e.start from) || ltb size (e.start + e.length)

-- entry j of a book is refused
abbrev pub entry_fault : List ℕ → ℕ → Bool
entry_fault bs j = fault_at (edition_of bs) (entry_of bs j) (body_start bs j) (length bs)

-- 10: "contents too short, kind, start, end beyond the book, last end (with no body, the contents' end) not the book's end"
unfoldable pub contents_fault : List ℕ → Bool
contents_fault bs =
    ltb (length bs) (4 + 8 * count_of bs) || any_below (count_of bs) (entry_fault bs) || not (eqb (body_start bs (count_of bs)) (length bs))

-- "Books: 9, contents in order": 0 where header and contents are good
unfoldable pub contents_number : List ℕ → ℕ
contents_number bs = first ((header_fault bs gives bad_header) ∷ (contents_fault bs gives bad_contents) ∷ [])

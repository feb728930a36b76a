-- The first fault of a book's header and contents: "Books: 9, contents in order". Items are the entries of the contents.
use Rattle.std.specs.Prelude.{not, List, [], ◌∷◌, ℕ, ◌+◌, ◌*◌, eqb, ltb, length}
use Rattle.fields.specs.Bytes.{byte_at}
use Rattle.editions.specs.Edition.{good_edition}
use Rattle.contents.specs.declared.Entry.{Entry}
use Rattle.contents.specs.Contents.{edition_of, count_of, entry_of, body_start, good_kind}
use Rattle.cause.specs.declared.Cause.TheVariants.{Short, Long, Letters, Edition, Count, Contents, Kind, Start, End, LastEnd}
use Rattle.cause.specs.Cause.{Finding, found, ◌finds◌, first_found, first_below, in_order}

-- 9: "book shorter than 4 or longer than 60,000 bytes, wrong letters, edition, or count"
unfoldable pub header_found : List ℕ → Finding
header_found bs =
    first_found
    (ltb (length bs) 4 finds found Short 0 0
    ∷ ltb 60000 (length bs) finds found Long 0 60000
    ∷ not (eqb (byte_at bs 0) 0x51) finds found Letters 0 0
    ∷ not (eqb (byte_at bs 1) 0x4E) finds found Letters 0 1
    ∷ not (good_edition (edition_of bs)) finds found Edition 0 2
    ∷ ltb 16 (count_of bs) finds found Count 0 3
    ∷ [])

-- 10: "kind, start, end beyond the book", of entry j, whose body is to start at a place of a book of an edition and so many bytes. The byte is that of its kind, its start or its length
unfoldable pub entry_found : ℕ → Entry → ℕ → ℕ → ℕ → Finding
entry_found ed e j from size =
    first_found
    (not (good_kind ed e.kind) finds found Kind j (4 + 8 * j)
    ∷ not (eqb e.start from) finds found Start j (8 + 8 * j)
    ∷ ltb size (e.start + e.length) finds found End j (6 + 8 * j)
    ∷ [])

-- 10: "contents too short": the byte is the book's end
unfoldable pub short_found : List ℕ → Finding
short_found bs = first_found (ltb (length bs) (4 + 8 * count_of bs) finds found Contents 0 (length bs) ∷ [])

-- 10: "last end (with no body, the contents' end) not the book's end": the byte is the first behind the last body
unfoldable pub end_found : List ℕ → Finding
end_found bs = first_found (not (eqb (body_start bs (count_of bs)) (length bs)) finds found LastEnd 0 (body_start bs (count_of bs)) ∷ [])

-- entry j of a book
abbrev pub entry_at : List ℕ → ℕ → Finding
entry_at bs j = entry_found (edition_of bs) (entry_of bs j) j (body_start bs j) (length bs)

-- "Books: 9, contents in order"
unfoldable pub contents_found : List ℕ → Finding
contents_found bs = in_order (header_found bs ∷ short_found bs ∷ first_below (count_of bs) (entry_at bs) ∷ end_found bs ∷ [])

-- The number that refuses an edit of a book in an area, test by test.
use Rattle.std.specs.Prelude.{Bool, false, not, List, [], ◌∷◌, ◌≡◌, ℕ, ◌≤◌, ◌<◌, eqb, ltb, length, take}
use Rattle.exact.specs.Refusal.{Test, accepted, bad_header, bad_contents, area_short, no_body, first, ◌gives◌}
use Rattle.contents.specs.Contents.{edition_of, count_of, good_kind}
use Rattle.book_bodies.specs.Number.{OwnNumber}
use Rattle.book.specs.Book.{BookNumber}
use Rattle.edit_numbers.specs.Volume.{Edit, remove, replace, add, volume_of, edited, closed_up}

-- 14: "no body of that number", of so many
abbrev pub missing : Edit → ℕ → Bool
missing (remove j) count = not (ltb j count)
missing (replace j kind width body) count = not (ltb j count)
missing (add kind width body) count = false

-- "10 for a bad kind", in a book of edition e
abbrev pub bad_new : ℕ → Edit → Bool
bad_new e (remove j) = false
bad_new e (replace j kind width body) = not (good_kind e kind)
bad_new e (add kind width body) = not (good_kind e kind)

-- "the body's own": k is the number of the new body in a book of edition e; a removal brings none
abbrev pub OwnOf : ℕ → Edit → ℕ → Type 0
OwnOf e (remove j) k = k ≡ accepted
OwnOf e (replace j kind width body) k = OwnNumber e kind width body k
OwnOf e (add kind width body) k = OwnNumber e kind width body k

-- "9 for a seventeenth body"
abbrev pub seventeenth : Edit → ℕ → Bool
seventeenth (remove j) count = false
seventeenth (replace j kind width body) count = false
seventeenth (add kind width body) count = ltb 15 count

-- a number that was found, as a test
abbrev pub found : ℕ → Test
found k = not (eqb k accepted) gives k

-- how many bytes the book has after the edit
abbrev pub size_after : List ℕ → Edit → ℕ
size_after bs e = length (closed_up (edited e (volume_of bs)))

-- "book refusals, 14, 10 for a bad kind, the body's own, 9 for a seventeenth body, 10 for 60,000, 13 for the area": the book's number and the new body's own, and whether each other test holds
abbrev pub order : ℕ → Bool → Bool → ℕ → Bool → Bool → Bool → ℕ
order whole none bad own many long short =
    first
    (found whole
    ∷ (none gives no_body) ∷ (bad gives bad_contents)
    ∷ found own ∷ (many gives bad_header)
    ∷ (long gives bad_contents) ∷ (short gives area_short)
    ∷ [])

-- k is the number of an edit of the book bs in an area of so many bytes
pub record BookEdit (bs : List ℕ) (room : ℕ) (e : Edit) (k : ℕ) : Type 0 where
  pub whole : ℕ
  pub tested : BookNumber bs whole
  pub own : ℕ
  pub owned : whole ≡ accepted → missing e (count_of bs) ≡ false → bad_new (edition_of bs) e ≡ false → OwnOf (edition_of bs) e own
  -- "Adding and replacing are refused for room exactly when the closed-up result would exceed 60,000 bytes or the area."
  pub is : k ≡ order whole (missing e (count_of bs)) (bad_new (edition_of bs) e) own (seventeenth e (count_of bs)) (ltb 60000 (size_after bs e)) (ltb room (size_after bs e))

-- k is the number of an edit of the first n bytes of an area. "13 for a stated length beyond the area"
pub record EditNumber (xs : List ℕ) (n : ℕ) (e : Edit) (k : ℕ) : Type 0 where
  pub beyond : length xs < n → k ≡ area_short
  pub within : n ≤ length xs → BookEdit (take n xs) (length xs) e k

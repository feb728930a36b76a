-- The writer of header and contents: what it refuses, what it answers and how it leaves the area.
use Rattle.std.specs.Prelude.{◌≡◌, Bool, not, ◌||◌, List, [], ◌∷◌, ◌++◌, ℕ, zero, suc, ◌+◌, ◌*◌, eqb, ltb, length, get_or}
use Rattle.exact.specs.Refusal.{bad_header, bad_contents, area_short, first, ◌gives◌}
use Rattle.exact.specs.Sum.{total}
use Rattle.editions.specs.Edition.{good_edition}
use Rattle.fields.specs.Bytes.{le, front}
use Rattle.contents.specs.Contents.{any_below, good_kind}
pub use Rattle.contents_lay.specs.declared.Written.{Written}

-- "Bytes 0–3: 51 4E, edition 01, count k"; "The contents writer and each direct call on a circuit take the edition"
abbrev pub header_bytes : ℕ → ℕ → List ℕ
header_bytes ed k = 0x51 ∷ 0x4E ∷ ed ∷ k ∷ []

-- "k entries of 8 bytes: kind (1 circuit, 2 table), width, length (16 bits), start (32 bits)"
unfoldable pub entry_bytes : ℕ → ℕ → ℕ → ℕ → List ℕ
entry_bytes kind width size start = kind ∷ width ∷ (le 2 size ++ le 4 start)

-- "Bodies follow in order without gaps": where body i starts, and with all of them the size of the book
unfoldable pub laid_start : List ℕ → ℕ → ℕ
laid_start ls i = 4 + 8 * length ls + total i (λ v. get_or ls v 0)

-- the first i entries
unfoldable pub entries_bytes : List ℕ → List ℕ → List ℕ → ℕ → List ℕ
entries_bytes ks ws ls zero = []
entries_bytes ks ws ls (suc i) = entries_bytes ks ws ls i ++ entry_bytes (get_or ks i 0) (get_or ws i 0) (get_or ls i 0) (laid_start ls i)

-- "header and contents .. from three lists (kinds, widths, lengths)"
unfoldable pub laid_bytes : ℕ → List ℕ → List ℕ → List ℕ → List ℕ
laid_bytes ed ks ws ls = header_bytes ed (length ks) ++ entries_bytes ks ws ls (length ks)

-- 9: "a list to lay of more than 16"
unfoldable pub too_many : List ℕ → List ℕ → List ℕ → Bool
too_many ks ws ls = ltb 16 (length ks) || ltb 16 (length ws) || ltb 16 (length ls)

-- kind i of a list is none of an edition's
abbrev pub bad_kind : ℕ → List ℕ → ℕ → Bool
bad_kind ed ks i = not (good_kind ed (get_or ks i 0))

-- 10: "lists to lay unequal, bad kind, or total above 60,000"
unfoldable pub bad_lists : ℕ → List ℕ → List ℕ → List ℕ → Bool
bad_lists ed ks ws ls =
    not (eqb (length ws) (length ks)) || not (eqb (length ls) (length ks)) || any_below (length ks) (bad_kind ed ks) || ltb 60000 (laid_start ls (length ls))

-- "Writers: 12, 9, 10, 13", in an area of so many bytes; "9 for an edition other than 1 or 2"; 13: "lent area too short for what is to be written"
unfoldable pub lay_number : ℕ → ℕ → List ℕ → List ℕ → List ℕ → ℕ
lay_number room ed ks ws ls =
    first
    ((not (good_edition ed) gives bad_header)
    ∷ (too_many ks ws ls gives bad_header) ∷ (bad_lists ed ks ws ls gives bad_contents)
    ∷ (ltb room (4 + 8 * length ks) gives area_short) ∷ [])

-- one thing where a number refuses nothing, another where it refuses
abbrev pub unless : {A : Type 0} → ℕ → A → A → A
unless zero a b = a
unless (suc n) a b = b

-- "Each answers the bytes written", "A refusal answers its number only, .. a writer 0 bytes"
unfoldable pub laid_answer : List ℕ → ℕ → List ℕ → List ℕ → List ℕ → Written
laid_answer xs ed ks ws ls =
    record { refusal = lay_number (length xs) ed ks ws ls; bytes = unless (lay_number (length xs) ed ks ws ls) (4 + 8 * length ks) 0 }

-- "at the front of a lent area": "all other bytes stay"
unfoldable pub laid_area : List ℕ → ℕ → List ℕ → List ℕ → List ℕ → List ℕ
laid_area xs ed ks ws ls = unless (lay_number (length xs) ed ks ws ls) (front xs (laid_bytes ed ks ws ls)) xs

-- the writer's answer, and the area from xs to ys
pub record ContentsLaid (xs : List ℕ) (ed : ℕ) (ks ws ls : List ℕ) (r : Written) (ys : List ℕ) : Type 0 where
  pub answer : r ≡ laid_answer xs ed ks ws ls
  pub area : ys ≡ laid_area xs ed ks ws ls

-- A body worked by hand, to test the definitions by computing them: two slots with c = 5, s = −3, a_1 = 2, b_01 = 1 and one tie.
use mathlib.Core.Path.{◌≡◌, refl}
use mathlib.Core.Bool.{true, false}
use mathlib.Core.List.{List, [], ◌∷◌, map}
use Prim.Native.Nat.{ℕ}
use lib.IntN.{negsuc}
use lib.ListN.{set}
use Rattle.fields.specs.Bytes.{number}
use Rattle.contents.specs.Contents.{any_below}
use Rattle.form.specs.Form.{turn_at, row_at}
use Rattle.ties.specs.Ties.{mask_at, side_at}
use Rattle.body_bytes.specs.Body.{body_fault, size_fault, head_fault, turn_fault, row_fault, tie_fault}
use Rattle.fields.specs.Listed.{listed}
use Rattle.body_bytes.specs.Body.{signed16}
use Rattle.body_read.specs.Table.{padded, form_of, ties_of, table_of}

-- zero mark, c and s; two turns; two rows; the tie count; the tie of the slots 0 and 1 with r = 1
abbrev body : List ℕ
body =
    0 ∷ 5 ∷ 0xFD ∷ 0xFF
    ∷ 0 ∷ 2
    ∷ 2 ∷ 0 ∷ 0 ∷ 0 ∷ 0 ∷ 0 ∷ 0 ∷ 0
    ∷ 1 ∷ 0 ∷ 0 ∷ 0 ∷ 0 ∷ 0 ∷ 0 ∷ 0
    ∷ 1
    ∷ 3 ∷ 0 ∷ 0 ∷ 0 ∷ 0 ∷ 0 ∷ 0 ∷ 0 ∷ 1
    ∷ []

-- the body with s in the bytes lo and hi
abbrev powered : ℕ → ℕ → List ℕ
powered lo hi = set (set body 2 lo) 3 hi

-- the body itself, and with s = 2,000 and −2,000
good : map (body_fault 2) (body ∷ powered 0xD0 0x07 ∷ powered 0x30 0xF8 ∷ []) ≡ false ∷ false ∷ false ∷ []
unfolding body_fault size_fault head_fault turn_fault row_fault tie_fault any_below number signed16
good = refl

-- s = 2,001 and −2,001; a zero mark of 2, c = 8, a turn of 4, bit 2 in a row, three ties, no tie but the bytes of one, bit 2 in a mask, r = 2
bad : map (body_fault 2)
    (powered 0xD1 0x07 ∷ powered 0x2F 0xF8 ∷ set body 0 2 ∷ set body 1 8 ∷ set body 5 4 ∷ set body 14 5 ∷ set body 22 3 ∷ set body 22 0 ∷ set body 23 7 ∷ set body 31 2 ∷ [])
    ≡ true ∷ true ∷ true ∷ true ∷ true ∷ true ∷ true ∷ true ∷ true ∷ true ∷ []
unfolding body_fault size_fault head_fault turn_fault row_fault tie_fault any_below number signed16
bad = refl

-- another width, and no bytes at all
wide : body_fault 1 body ∷ body_fault 3 body ∷ body_fault 65 body ∷ body_fault 0 [] ∷ [] ≡ true ∷ true ∷ true ∷ true ∷ []
unfolding body_fault size_fault head_fault turn_fault row_fault tie_fault any_below number signed16
wide = refl

power : (table_of 2 body).power.0 ≡ negsuc 2
unfolding table_of signed16 number
power = refl

-- the live mask, c, a_0, a_1, a_2, rows 0, 1 and 2
numbers : (table_of 2 body).live ∷ (table_of 2 body).form.phase.0 ∷ map (turn_at (form_of 2 body)) (0 ∷ 1 ∷ 2 ∷ []) ≡ 3 ∷ 5 ∷ 0 ∷ 2 ∷ 0 ∷ []
unfolding table_of form_of turn_at listed padded
numbers = refl

rows : map (row_at (form_of 2 body)) (0 ∷ 1 ∷ 2 ∷ []) ≡ 2 ∷ 1 ∷ 0 ∷ []
unfolding form_of row_at listed padded number
rows = refl

-- the tie count, the masks 0 and 1, and r of both
tied : (ties_of 2 body).count ∷ mask_at (ties_of 2 body) 0 ∷ mask_at (ties_of 2 body) 1 ∷ side_at (ties_of 2 body) 0 ∷ side_at (ties_of 2 body) 1 ∷ [] ≡ 1 ∷ 3 ∷ 0 ∷ 1 ∷ 0 ∷ []
unfolding ties_of mask_at side_at listed padded number
tied = refl

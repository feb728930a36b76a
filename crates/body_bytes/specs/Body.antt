-- A table's body in a book: its fields as the bytes state them, and when they are refused.
-- "Table body, n = width 0..64, live slots 0..n−1: zero mark, c, s (16 bits, two's complement), n bytes a, n rows of 8 bytes b (bit u of row v is b_uv), tie count, then for each tie an 8-byte mask and r."
use Rattle.std.specs.Prelude.{Bool, not, ◌||◌, cond, List, ℕ, ◌+◌, ◌*◌, ◌^◌, eqb, ltb, leb, ℤ, pos, ◌-ℤ◌, length}
use Rattle.state.specs.Number.{outside}
use Rattle.fields.specs.Bytes.{byte_at, number}
use Rattle.contents.specs.Contents.{any_below}

-- ---- the fields
-- "zero mark, c", bytes 0 and 1
abbrev pub mark_of : List ℕ → ℕ
mark_of bs = byte_at bs 0

abbrev pub phase_of : List ℕ → ℕ
phase_of bs = byte_at bs 1

-- "16 bits, two's complement": from 2^15 on, n stands for n − 2^16
unfoldable pub signed16 : ℕ → ℤ
signed16 n = cond (ltb n 32768) (pos n) (pos n -ℤ pos 65536)

-- "s (16 bits, two's complement)", bytes 2 and 3
abbrev pub power_of : List ℕ → ℤ
power_of bs = signed16 (number 2 bs 2)

-- "n bytes a"
abbrev pub turn_of : List ℕ → ℕ → ℕ
turn_of bs v = byte_at bs (4 + v)

-- "n rows of 8 bytes b (bit u of row v is b_uv)"
abbrev pub row_of : ℕ → List ℕ → ℕ → ℕ
row_of n bs v = number 8 bs (4 + n + 8 * v)

-- "tie count"
abbrev pub tie_count : ℕ → List ℕ → ℕ
tie_count n bs = byte_at bs (4 + 9 * n)

-- "then for each tie an 8-byte mask and r"
abbrev pub mask_of : ℕ → List ℕ → ℕ → ℕ
mask_of n bs j = number 8 bs (5 + 9 * n + 9 * j)

abbrev pub side_of : ℕ → List ℕ → ℕ → ℕ
side_of n bs j = byte_at bs (5 + 9 * n + 9 * j + 8)

-- ---- 11
-- "body length wrong, .. table width above 64, more ties than n"
unfoldable pub size_fault : ℕ → List ℕ → Bool
size_fault n bs =
    ltb 64 n || ltb (length bs) (5 + 9 * n) || ltb n (tie_count n bs) || not (eqb (length bs) (5 + 9 * n + 9 * tie_count n bs))

-- "a field out of range (s beyond ±2,000, zero mark .. above 1": "a phase c (0..7)"
unfoldable pub head_fault : List ℕ → Bool
head_fault bs = ltb 1 (mark_of bs) || ltb 7 (phase_of bs) || outside (power_of bs)

-- "a turn a_v (0..3)"
unfoldable pub turn_fault : List ℕ → ℕ → Bool
turn_fault bs v = ltb 3 (turn_of bs v)

-- "a row .. bit at or above n"
unfoldable pub row_fault : ℕ → List ℕ → ℕ → Bool
row_fault n bs v = leb (2 ^ n) (row_of n bs v)

-- "r above 1, a .. mask bit at or above n"
unfoldable pub tie_fault : ℕ → List ℕ → ℕ → Bool
tie_fault n bs j = leb (2 ^ n) (mask_of n bs j) || ltb 1 (side_of n bs j)

-- a body of width n is refused by 11
unfoldable pub body_fault : ℕ → List ℕ → Bool
body_fault n bs =
    size_fault n bs || head_fault bs || any_below n (turn_fault bs) || any_below n (row_fault n bs) || any_below (tie_count n bs) (tie_fault n bs)

-- The first fault of a table's body: "Table body: 11 before 12." The fields in the order of their numbers' tests; items are slots or ties.
use Rattle.std.specs.Prelude.{true, false, not, List, [], ◌∷◌, ◌≡◌, ℕ, ◌+◌, ◌*◌, ◌^◌, eqb, ltb, leb, length}
use Rattle.exact.specs.Refusal.{accepted}
use Rattle.state.specs.Number.{outside}
use Rattle.state.specs.Normal.{Normal}
use Rattle.body_bytes.specs.Body.{mark_of, phase_of, power_of, tie_count, mask_of, side_of, turn_fault, row_fault, body_fault}
use Rattle.body_read.specs.Table.{table_of}
use Rattle.cause.specs.declared.Cause.TheVariants.{TableWidth, Length, ManyTies, ZeroMark, Phase, PowerOut, Turn, Row, Mask, Side, NotNormal}
use Rattle.cause.specs.Cause.{Finding, found, sound, found_number, ◌finds◌, first_found, first_below, in_order}

-- "body length wrong, .. table width above 64, more ties than n": a wrong length is at the body's end, the width at its byte in the contents
unfoldable pub size_found : ℕ → ℕ → ℕ → List ℕ → Finding
size_found from wat n bs =
    first_found
    (ltb 64 n finds found TableWidth 0 wat
    ∷ ltb (length bs) (5 + 9 * n) finds found Length 0 (from + length bs)
    ∷ ltb n (tie_count n bs) finds found ManyTies 0 (from + (4 + 9 * n))
    ∷ not (eqb (length bs) (5 + 9 * n + 9 * tie_count n bs)) finds found Length 0 (from + length bs)
    ∷ [])

-- "a field out of range (s beyond ±2,000, zero mark .. above 1": "a phase c (0..7)"
unfoldable pub head_found : ℕ → List ℕ → Finding
head_found from bs =
    first_found
    (ltb 1 (mark_of bs) finds found ZeroMark 0 from
    ∷ ltb 7 (phase_of bs) finds found Phase 0 (from + 1)
    ∷ outside (power_of bs) finds found PowerOut 0 (from + 2)
    ∷ [])

-- "a turn a_v (0..3)"
unfoldable pub turn_found : ℕ → List ℕ → ℕ → Finding
turn_found from bs v = first_found (turn_fault bs v finds found Turn v (from + (4 + v)) ∷ [])

-- "a row .. bit at or above n"
unfoldable pub row_found : ℕ → ℕ → List ℕ → ℕ → Finding
row_found from n bs v = first_found (row_fault n bs v finds found Row v (from + (4 + n + 8 * v)) ∷ [])

-- "a .. mask bit at or above n", "r above 1"
unfoldable pub tie_found : ℕ → ℕ → List ℕ → ℕ → Finding
tie_found from n bs j =
    first_found
    (leb (2 ^ n) (mask_of n bs j) finds found Mask j (from + (5 + 9 * n + 9 * j))
    ∷ ltb 1 (side_of n bs j) finds found Side j (from + (5 + 9 * n + 9 * j + 8))
    ∷ [])

-- 11
unfoldable pub body_found : ℕ → ℕ → ℕ → List ℕ → Finding
body_found from wat n bs =
    in_order
    (size_found from wat n bs
    ∷ head_found from bs
    ∷ first_below n (turn_found from bs)
    ∷ first_below n (row_found from n bs)
    ∷ first_below (tie_count n bs) (tie_found from n bs)
    ∷ [])

-- f is the first fault of a table's body of width n that starts at a byte: 11, then 12, at the body's first byte
pub record TableFound (from wat n : ℕ) (bs : List ℕ) (f : Finding) : Type 0 where
  pub fault : body_fault n bs ≡ true → f ≡ body_found from wat n bs
  pub broken : body_fault n bs ≡ false → (Normal (table_of n bs) → ⊥) → f ≡ found NotNormal 0 from
  pub good : body_fault n bs ≡ false → Normal (table_of n bs) → f ≡ sound
  -- no fault: the table is normal
  pub normal : found_number f ≡ accepted → Normal (table_of n bs)

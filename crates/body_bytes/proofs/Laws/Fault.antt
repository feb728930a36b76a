-- The tests of a body's rows and turns: by the truth of each test.
use mathlib.Core.Path.{◌≡◌, ap, ◌∙◌}
use mathlib.Core.Bool.{Bool, true, false}
use mathlib.Core.List.{List}
use Prim.Native.Nat.{ℕ, ◌^◌, ◌≤◌, ◌<◌}
use lib.Dec.{leb}
use borrow.Author.Tests.{lt-ltb, le-ltb}
use Rattle.body_bytes.specs.Body.{turn_of, row_of}
use Rattle.body_bytes.specs.Body.{turn_fault, row_fault}

module _ (n : ℕ) (bs : List ℕ) where
  -- ---- a row, that is m, tested
  pub row-tested : (v m : ℕ) (b : Bool) → m ≡ row_of n bs v → b ≡ leb (2 ^ n) m → b ≡ row_fault n bs v
  unfolding row_fault
  row-tested v m b e t = t ∙ ap (leb (2 ^ n)) e

module _ (bs : List ℕ) where
  -- ---- a turn
  pub turn-high : (v : ℕ) → 3 < turn_of bs v → turn_fault bs v ≡ true
  unfolding turn_fault
  turn-high v h = lt-ltb 3 (turn_of bs v) h

  pub turn_low : (v : ℕ) → turn_of bs v ≤ 3 → turn_fault bs v ≡ false
  unfolding turn_fault
  turn_low v h = le-ltb 3 (turn_of bs v) h

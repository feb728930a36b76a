-- A list in which the places from lo up to hi hold given bytes, and all others what they held.
use Rattle.std.specs.Prelude.{◌≡◌, List, ◌⊎◌, ℕ, ◌+◌, ◌-◌, ◌≤◌, ◌<◌, length, get_or}

-- what stood at the place that goes to p, where bytes go from one place to another
abbrev pub from : List ℕ → ℕ → ℕ → ℕ → ℕ
from xs at to p = get_or xs (at + (p - to)) 0

-- the byte of a body that is put from a place on
abbrev pub of : List ℕ → ℕ → ℕ → ℕ
of bs at p = get_or bs (p - at) 0

-- ys is xs with f at each place from lo up to hi
pub record Holds (f : ℕ → ℕ) (lo hi : ℕ) (xs ys : List ℕ) : Type 0 where
  pub long : length ys ≡ length xs
  pub here : (p : ℕ) → lo ≤ p → p < hi → get_or ys p 0 ≡ f p
  pub else : (p : ℕ) → (p < lo) ⊎ (hi ≤ p) → get_or ys p 0 ≡ get_or xs p 0

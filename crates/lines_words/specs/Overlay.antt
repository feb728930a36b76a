-- What a writer leaves in a lent area, and the place behind it: "all other bytes stay".
use Rattle.std.specs.Prelude.{◌≡◌, List, [], ◌∷◌, ℕ, suc, ◌+◌, min, length, set}

-- xs with bs laid from a place on. A byte beyond the end is dropped, every other byte of xs stays
unfoldable pub overlaid : List ℕ → ℕ → List ℕ → List ℕ
overlaid xs at [] = xs
overlaid xs at (b ∷ bs) = overlaid (set xs at b) (suc at) bs

-- the largest place, 2^64 − 1
abbrev pub top : ℕ
top = 18446744073709551615

-- the place behind bs. Bytes that were dropped count too, so that a place above the area's length says that it was too short; it stops at the largest
unfoldable pub place_behind : ℕ → List ℕ → ℕ
place_behind at bs = min (at + length bs) top

-- the text was laid over the area xs from a place on: the area is now ys, and the answer r is the place behind the text
pub record TextLaid (xs : List ℕ) (at : ℕ) (text ys : List ℕ) (r : ℕ) : Type 0 where
  pub area : ys ≡ overlaid xs at text
  pub place : r ≡ place_behind at text

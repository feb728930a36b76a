-- What a caller learns who lends 312 bytes or more: the answer is the listing's length, and the bytes up to there are the listing. By the laws of writers.
use mathlib.Core.List.{List}
use mathlib.Core.Path.{◌≡◌}
use Prim.Native.Nat.{ℕ, ◌≤◌}
use native.Mathlib.Omega.{arith}
use lib.ListN.{length, take}
use Rattle.lines_words.specs.Overlay.{top}
use Rattle.lines_words.proofs.Laws.Laid.{laid-length, laid-place, laid-front}
use Rattle.listing.specs.Listing.{ListedAs}

-- the answer is no more than the longest listing, whatever is lent
pub listed-most : {Is : List ℕ → Type 0} {xs ys : List ℕ} {r : ℕ} → ListedAs Is xs ys r → r ≤ 312
listed-most L = omega (arith, L.short, laid-place L.laid (omega (arith, L.short)))

module _ (Is : List ℕ → Type 0) (xs ys : List ℕ) (r : ℕ) (L : ListedAs Is xs ys r) (room : 312 ≤ length xs) where
  pub listed-within : r ≤ length ys
  listed-within = omega (arith, L.short, room, laid-length L.laid, laid-place L.laid (omega (arith, L.short)))

  pub listed-front : length xs ≤ top → take r ys ≡ L.text
  listed-front h = laid-front L.laid (omega (arith, L.short, room)) h

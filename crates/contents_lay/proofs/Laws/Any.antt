-- A test asked of each element of a list in turn says whether it holds of some place of the list.
use mathlib.Core.List.{List}
use mathlib.Core.Bool.{Bool, true, false}
use mathlib.Core.Path.{◌≡◌, sym}
use Prim.Native.Nat.{ℕ, ◌<◌}
use native.Mathlib.Omega.{arith}
use lib.ListN.{length, get_or}
use Rattle.std.specs.Bool.{MatchBool}
use Rattle.std.specs.List.{AllWithin, HoldsAt}
use Rattle.contents.specs.Contents.{any_below}
use Rattle.contents.proofs.Laws.Some.{some-here, none}

pub any-tested : (h : ℕ → Bool) (xs : List ℕ) (r : Bool) → MatchBool r ((k : ℕ) × (k < length xs) × HoldsAt (λ x. h x ≡ true) xs k) (AllWithin (λ x. h x ≡ false) xs 0 (length xs)) → r ≡ any_below (length xs) (λ i. h (get_or xs i 0))
any-tested h xs true (k, l, y) = sym (some-here (length xs) k (λ i. h (get_or xs i 0)) l (y 0))
any-tested h xs false never = sym (none (length xs) (λ i. h (get_or xs i 0)) (λ j b. never j 0 (omega arith) b))

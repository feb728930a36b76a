-- What a normal table can give, a power from −2,000 to 2,000 and a phase below 8, is answered as it stands: nothing is clamped or reduced.
use mathlib.Core.Path.{◌≡◌, ap}
use Prim.Native.Nat.{ℕ, ◌%◌, ◌≤◌, ◌<◌}
use native.Mathlib.Omega.{arith}
use lib.IntN.{ℤ, pos, negsuc}
use Rattle.exact.specs.Amount.{some}
use Rattle.doubles.specs.Parts.{clamped}
use Rattle.doubles.specs.Answer.{pair_of, parts_of, answer_of}

abbrev pub Within : ℤ → Type 0
Within (pos n) = n ≤ 2000
Within (negsuc n) = n ≤ 1999

pub held_same : (s : ℤ) → Within s → clamped s ≡ s
unfolding clamped
held_same (pos n) h = ap pos (omega arith)
held_same (negsuc n) h = ap negsuc (omega arith)

pub answer-within : (s : ℤ) (p : ℕ) → Within s → p < 8 → answer_of (some s p) ≡ record { number = 0; values = pair_of s p }
unfolding answer_of parts_of
answer-within s p h l =
    let e : p % 8 ≡ p = omega arith in
    λ i. record { number = 0; values = pair_of (held_same s h i) (e i) }

-- A signed number: its size beside its sign, and its text in either case of the test "below zero". By the cases of the number.
use mathlib.Core.Bool.{true, false, false≢true}
use mathlib.Core.List.{◌++◌}
use mathlib.Core.Path.{◌≡◌, refl, sym, ap}
use Prim.Native.Nat.{suc}
use native.Mathlib.Nat.{zero-add}
use native.Mathlib.Omega.{arith}
use borrow.Author.Tests.{ltb-true}
use lib.Dec.{T}
use lib.IntN.{ℤ, pos, negsuc, nat_abs, ◌-ℤ◌}
use lib.Signed.{lt_z, non_neg}
use mir.Syntax.{w32, w64}
use mir.Val.{SFits}
use Rattle.lines_words.specs.Text.{letters, digits, signed_text}

-- what fits in 32 bits fits in 64, and so does its size
pub wide : (z : ℤ) → SFits w32 z → SFits w64 z
wide z f = record { sfits = omega (arith, f.sfits) }

pub size_fits : (z : ℤ) → SFits w32 z → SFits w64 (pos (nat_abs z))
size_fits (pos n) f = record { sfits = omega (arith, f.sfits) }
size_fits (negsuc n) f = record { sfits = omega (arith, f.sfits) }

-- below zero the size is the negative of the number
pub negated : (z : ℤ) → lt_z z (pos 0) ≡ true → pos 0 -ℤ z ≡ pos (nat_abs z)
negated (pos n) h = absurd (omega (arith, ltb-true n 0 h))
negated (negsuc n) h = ap pos (zero-add (suc n))

-- elsewhere it is the number
pub not-below : (z : ℤ) → lt_z z (pos 0) ≡ false → T (non_neg z)
not-below (pos n) h = tt
not-below (negsuc n) h = absurd (false≢true (sym h))

pub text-below : (z : ℤ) → lt_z z (pos 0) ≡ true → signed_text z ≡ letters "-" ++ digits (nat_abs z)
unfolding signed_text
text-below (pos n) h = absurd (omega (arith, ltb-true n 0 h))
text-below (negsuc n) h = refl

pub text-above : (z : ℤ) → lt_z z (pos 0) ≡ false → signed_text z ≡ digits (nat_abs z)
unfolding signed_text
text-above (pos n) h = refl
text-above (negsuc n) h = absurd (false≢true (sym h))

-- The components are those of ω^p: with coefficients c0 .. c3, and as ω = (1 + i)/√2, the real part is c0·√2^s + (c1 − c3)·√2^(s−1) and the imaginary part c2·√2^s + (c1 + c3)·√2^(s−1).
use Prim.Native.Nat.{ℕ, zero, suc, ◌<◌}
use native.Mathlib.Omega.{arith}
use lib.IntN.{ℤ, pos, negsuc}
use lib.Ieee.{Float, neg}
use Rattle.exact.specs.Whole.{◌⊕◌, ◌⊖◌, neg as minus}
use Rattle.exact.specs.Value.{unit, turn, turns}
use Rattle.doubles.specs.Parts.{plus_zero, real_part, imaginary_part}

-- x is a·r + b·h
pub data Sum (r h : Float) : ℤ → ℤ → Float → Type 0 where
  none : Sum r h (pos 0) (pos 0) plus_zero
  one-r : Sum r h (pos 1) (pos 0) r
  less-r : Sum r h (negsuc 0) (pos 0) (neg r)
  one-h : Sum r h (pos 0) (pos 1) h
  less-h : Sum r h (pos 0) (negsuc 0) (neg h)

pub real-turns : (p : ℕ) (r h : Float) → p < 8 → Sum r h (turns p unit).c0 ((turns p unit).c1 ⊖ (turns p unit).c3) (real_part p r h)
unfolding turn minus ◌⊕◌
real-turns zero r h l = one-r
real-turns (suc zero) r h l = one-h
real-turns (suc (suc zero)) r h l = none
real-turns (suc (suc (suc zero))) r h l = less-h
real-turns (suc (suc (suc (suc zero)))) r h l = less-r
real-turns (suc (suc (suc (suc (suc zero))))) r h l = less-h
real-turns (suc (suc (suc (suc (suc (suc zero)))))) r h l = none
real-turns (suc (suc (suc (suc (suc (suc (suc zero))))))) r h l = one-h
real-turns (suc (suc (suc (suc (suc (suc (suc (suc p)))))))) r h l = absurd (omega arith)

pub imaginary-turns : (p : ℕ) (r h : Float) → p < 8 → Sum r h (turns p unit).c2 ((turns p unit).c1 ⊕ (turns p unit).c3) (imaginary_part p r h)
unfolding turn minus ◌⊕◌
imaginary-turns zero r h l = none
imaginary-turns (suc zero) r h l = one-h
imaginary-turns (suc (suc zero)) r h l = one-r
imaginary-turns (suc (suc (suc zero))) r h l = one-h
imaginary-turns (suc (suc (suc (suc zero)))) r h l = none
imaginary-turns (suc (suc (suc (suc (suc zero))))) r h l = less-h
imaginary-turns (suc (suc (suc (suc (suc (suc zero)))))) r h l = less-r
imaginary-turns (suc (suc (suc (suc (suc (suc (suc zero))))))) r h l = less-h
imaginary-turns (suc (suc (suc (suc (suc (suc (suc (suc p)))))))) r h l = absurd (omega arith)

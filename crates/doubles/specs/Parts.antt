-- The two components of √2^s · ω^p. "With p even, one component is ±√2^s and the other zero; with p odd, both are ±√2^(s−1)." "A zero component is plus zero."
use Rattle.std.specs.Prelude.{ℕ, zero, suc, min, false, ℤ, pos, negsuc, Float}
use Rattle.std.specs.Float.{fin}
use Rattle.std.specs.Float.Ieee.{neg}

-- +0, which is not −0
abbrev pub plus_zero : Float
plus_zero = fin false 0 (pos 0)

-- the cosine: at p eighth turns, 0..7, where r is √2^s and h is √2^(s−1)
abbrev pub real_part : ℕ → Float → Float → Float
real_part zero r h = r
real_part (suc zero) r h = h
real_part (suc (suc zero)) r h = plus_zero
real_part (suc (suc (suc zero))) r h = neg h
real_part (suc (suc (suc (suc zero)))) r h = neg r
real_part (suc (suc (suc (suc (suc zero))))) r h = neg h
real_part (suc (suc (suc (suc (suc (suc zero)))))) r h = plus_zero
real_part (suc (suc (suc (suc (suc (suc (suc p))))))) r h = h

-- the sine
abbrev pub imaginary_part : ℕ → Float → Float → Float
imaginary_part zero r h = plus_zero
imaginary_part (suc zero) r h = h
imaginary_part (suc (suc zero)) r h = r
imaginary_part (suc (suc (suc zero))) r h = h
imaginary_part (suc (suc (suc (suc zero)))) r h = plus_zero
imaginary_part (suc (suc (suc (suc (suc zero))))) r h = neg h
imaginary_part (suc (suc (suc (suc (suc (suc zero)))))) r h = neg r
imaginary_part (suc (suc (suc (suc (suc (suc (suc p))))))) r h = neg h

-- a power from −2,000 to 2,000 is itself; one beyond counts as the nearer end
unfoldable pub clamped : ℤ → ℤ
clamped (pos n) = pos (min n 2000)
clamped (negsuc n) = negsuc (min n 1999)

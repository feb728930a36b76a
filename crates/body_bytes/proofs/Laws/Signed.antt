-- Two's complement of 16 bits, and the range of a power: by the two signs.
use mathlib.Core.Path.{◌≡◌, refl, sym, ap, ◌∙◌}
use mathlib.Core.Bool.{true, false}
use mathlib.Core.Logic.{⊎_elim}
use Prim.Native.Nat.{ℕ, suc, ◌-◌, ◌≤◌, ◌<◌}
use native.Mathlib.Omega.{arith}
use lib.IntN.{ℤ, pos, negsuc, ◌-ℤ◌}
use lib.Signed.{lt_z}
use mir.Facts.{to_z_pos}
use mir.Syntax.{w16}
use mir.Val.{to_z}
use borrow.Author.Tests.{lt-ltb, le-ltb, le-leb, lt-leb, ltb-true, ltb-false}
use Rattle.exact.proofs.Laws.Sum.{split}
use Rattle.state.specs.Number.{outside}
use Rattle.state.specs.Normal.{InRange}
use Rattle.body_bytes.specs.Body.{signed16}

module _ (n : ℕ) where
  -- below 2^15, n itself
  pub signed_low : n < 32768 → signed16 n ≡ pos n
  unfolding signed16
  signed_low h = rw (lt-ltb n 32768 h)

  -- from 2^15 on, n − 2^16
  pub signed-less : 32768 ≤ n → signed16 n ≡ pos n -ℤ pos 65536
  unfolding signed16
  signed-less h = rw (le-ltb n 32768 h)

  less-is : n < 65536 → pos n -ℤ pos 65536 ≡ negsuc (65535 - n)
  less-is h = rw (lt-ltb n 65536 h) (let e : 65536 - suc n ≡ 65535 - n = omega arith in ap negsuc e)

  pub signed_high : 32768 ≤ n → n < 65536 → signed16 n ≡ negsuc (65535 - n)
  signed_high l h = signed-less l ∙ less-is h

  -- the library's reading of 16 bits
  pub signed-is : n < 65536 → to_z w16 n ≡ signed16 n
  signed-is h = ⊎_elim low high (split n 32768)
    where
      low : n < 32768 → to_z w16 n ≡ signed16 n
      low l = to_z_pos w16 l ∙ sym (signed_low l)

      high : 32768 ≤ n → to_z w16 n ≡ signed16 n
      high l = rw (le-ltb n 32768 l) (let e : 65536 - suc n ≡ 65535 - n = omega arith in ap negsuc e ∙ sym (signed_high l h))

-- ---- "its power is below −2,000 or above 2,000"
pub outside_low : (z : ℤ) → lt_z z (negsuc 1999) ≡ true → true ≡ outside z
outside_low (pos n) h = sym (absurd (let e : false ≡ true = h in let k : ◌≡◌ {A = ℕ} 0 1 = cc in omega arith))
outside_low (negsuc n) h = sym (le-leb 2000 n (omega (arith, ltb-true 1999 n h)))

pub outside_high : (z : ℤ) → lt_z z (negsuc 1999) ≡ false → lt_z (pos 2000) z ≡ outside z
outside_high (pos n) h = refl
outside_high (negsuc n) h = sym (lt-leb 2000 n (omega (arith, ltb-false 1999 n h)))

pub not-outside : (z : ℤ) → InRange z → outside z ≡ false
not-outside (pos n) h = le-ltb 2000 n h
not-outside (negsuc n) h = lt-leb 2000 n h

-- A mask that has a bit at or above n.
use mathlib.Core.Path.{◌≡◌, sym, ◌∙◌}
use mathlib.Core.Bool.{false}
use mathlib.Core.Logic.{⊎_elim}
use Prim.Native.Nat.{ℕ, ◌*◌, ◌/◌, ◌^◌, ◌≤◌, ◌<◌}
use native.Mathlib.Nat.{div-eq_of_lt, le-div_iff_mul-le, lt_of_lt_of_le}
use native.Mathlib.Omega.{arith}
use lib.Dec.{leb, ltb}
use lib.Pow.{pow_pos, pow_mono}
use borrow.Author.Tests.{lt-ltb, le-ltb, le-leb, lt-leb}
use Rattle.exact.proofs.Laws.Sum.{split}

module _ (n m : ℕ) where
  -- a bit at or above n is what is left above the n lowest
  pub out-shifted : ltb 0 (m / 2 ^ n) ≡ leb (2 ^ n) m
  out-shifted = ⊎_elim low high (split m (2 ^ n))
    where
      low : m < 2 ^ n → ltb 0 (m / 2 ^ n) ≡ leb (2 ^ n) m
      low h = le-ltb 0 (m / 2 ^ n) (omega (arith, div-eq_of_lt h)) ∙ sym (lt-leb (2 ^ n) m h)

      high : 2 ^ n ≤ m → ltb 0 (m / 2 ^ n) ≡ leb (2 ^ n) m
      high h =
          let one : 1 * 2 ^ n ≤ m = omega arith in
          let q : 1 ≤ m / 2 ^ n = (le-div_iff_mul-le (pow_pos n)).1 one in
          lt-ltb 0 (m / 2 ^ n) q ∙ sym (le-leb (2 ^ n) m h)

  -- from 64 on, none is out
  pub none_out : m < 2 ^ 64 → 64 ≤ n → false ≡ leb (2 ^ n) m
  none_out h l = sym (lt-leb (2 ^ n) m (lt_of_lt_of_le h (pow_mono l)))

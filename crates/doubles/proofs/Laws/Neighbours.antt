-- Every other double is at least a unit 2^e away from m·2^e, where m has 53 digits: from 2^e on a double is a multiple of 2^e, and below 2^e its 53 digits do not reach m.
use mathlib.Core.Path.{◌≡◌, sym, ap, ◌∙◌}
use Prim.Native.Nat.{ℕ, zero, suc, ◌+◌, ◌-◌, ◌*◌, ◌%◌, ◌^◌, ◌≤◌, ◌<◌}
use native.Mathlib.Nat.{mul_assoc, suc-mul, pow-succ', mul-le-mul_right, lt_of_mul-lt-mul_right}
use native.Mathlib.Omega.{arith}
use mathlib.Core.Bool.{Bool, true, false, not, ◌&&◌}
use lib.IntN.{ℤ}
use lib.Dec.{T, eqb, ltb, leb, ltb→lt, leb→le, nleb→lt, lit<}
use lib.Pow.{pow-add, pow_mono}
use lib.Ieee.{fin, binary64, emax, low, up, down, fits}
use lib.Ieee.Fits.{and_l, and_r}
use Rattle.doubles.specs.Nearest.{Nearest}
use Rattle.doubles.proofs.Laws.Nearest.{rise, fall, up_is, down_is}

-- a double has at most 53 digits
short : (n : ℕ) (k : ℤ) → T (fits binary64 (fin false n k)) → n < 2 ^ 53
unfolding fits
short zero k f = lit< tt
short (suc n) k f =
    ltb→lt (suc n) (2 ^ 53) (and_r (eqb (suc n % 2) 1) (ltb (suc n) (2 ^ 53)) (and_l (eqb (suc n % 2) 1 && ltb (suc n) (2 ^ 53)) (leb (down k) (2 ^ low binary64))
    (and_l (eqb (suc n % 2) 1 && ltb (suc n) (2 ^ 53) && leb (down k) (2 ^ low binary64)) (ltb (suc n * up k) (2 ^ suc (emax binary64) * down k)) f)))

-- two multiples of u that differ, differ by u
multiple : (c m u : ℕ) → c * u < m * u → c * u + u ≤ m * u
multiple c m u h = let l : c < m = lt_of_mul-lt-mul_right u h in rw (← suc-mul c u) (mul-le-mul_right u l)

-- n·2^a as a multiple of 2^b
module _ (n m a b : ℕ) (small : n < 2 ^ 53) (large : 2 ^ 52 < m) where
  coarse : b ≤ a → n * 2 ^ a ≡ n * 2 ^ (a - b) * 2 ^ b
  coarse l =
      let e : a ≡ a - b + b = omega arith in
      ap (λ (t : ℕ). n * 2 ^ t) e ∙ ap (λ (t : ℕ). n * t) (pow-add 2 (a - b) b) ∙ sym (mul_assoc n (2 ^ (a - b)) (2 ^ b))

  fine : a < b → n * 2 ^ a + 2 ^ b ≤ m * 2 ^ b
  fine l =
      let p : n * 2 ^ a ≤ 2 ^ 53 * 2 ^ a = mul-le-mul_right (2 ^ a) (omega arith) in
      let q : 2 ^ suc a ≤ 2 ^ b = pow_mono l in
      let r : suc (2 ^ 52) * 2 ^ b ≤ m * 2 ^ b = mul-le-mul_right (2 ^ b) large in
      omega (arith, pow-succ' 2 a)

  below : n * 2 ^ a < m * 2 ^ b → n * 2 ^ a + 2 ^ b ≤ m * 2 ^ b
  below h = go (leb b a) (leb→le b a) (nleb→lt b a)
    where
      go : (t : Bool) → (T t → b ≤ a) → (T (not t) → a < b) → n * 2 ^ a + 2 ^ b ≤ m * 2 ^ b
      go true f g = rw (coarse (f tt)) (multiple (n * 2 ^ (a - b)) m (2 ^ b) (rw (coarse (f tt)) at h))
      go false f g = fine (g tt)

  above : m * 2 ^ b < n * 2 ^ a → m * 2 ^ b + 2 ^ b ≤ n * 2 ^ a
  above h = go (leb b a) (leb→le b a) (nleb→lt b a)
    where
      go : (t : Bool) → (T t → b ≤ a) → (T (not t) → a < b) → m * 2 ^ b + 2 ^ b ≤ n * 2 ^ a
      go true f g = rw (coarse (f tt)) (multiple m (n * 2 ^ (a - b)) (2 ^ b) (rw (coarse (f tt)) at h))
      go false f g = absurd (omega (arith, fine (g tt)))

scale : (k e : ℤ) → up k * down e ≡ 2 ^ (rise k + fall e)
scale k e = rw (up_is k, down_is e) (sym (pow-add 2 (rise k) (fall e)))

-- a double n·2^k below m·2^e, or above it, both multiplied up by down e · down k
module _ (s : ℤ) (m : ℕ) (e : ℤ) (near : Nearest s m e) (n : ℕ) (k : ℤ) (double : T (fits binary64 (fin false n k))) where
  pub unit-below : n * (up k * down e) < m * (up e * down k) → n * (up k * down e) + up e * down k ≤ m * (up e * down k)
  unit-below h = rw (scale k e, scale e k) (below n m (rise k + fall e) (rise e + fall k) (short n k double) near.digits.0 (rw (scale k e, scale e k) at h))

  pub unit-above : m * (up e * down k) < n * (up k * down e) → m * (up e * down k) + up e * down k ≤ n * (up k * down e)
  unit-above h = rw (scale k e, scale e k) (above n m (rise k + fall e) (rise e + fall k) (short n k double) near.digits.0 (rw (scale k e, scale e k) at h))

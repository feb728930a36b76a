-- An odd power's double is the nearest to it, and an even power's is the power of two, from −2,001 to 2,001.
use mathlib.Core.Path.{◌≡◌, refl, sym, ap, ◌∙◌, subst}
use Prim.Native.Nat.{ℕ, zero, suc, ◌+◌, ◌-◌, ◌*◌, ◌/◌, ◌%◌, ◌^◌, ◌≤◌, ◌<◌, min}
use native.Mathlib.Nat.{mul-pos, mul-lt-mul_of_pos_right}
use native.Mathlib.Omega.{arith}
use mathlib.Core.Bool.{Bool, true, false, not}
use lib.IntN.{ℤ, pos, negsuc, pred_ℤ}
use lib.Dec.{T, leb, leb→le, nleb→lt, lit<, lit≤}
use lib.Pow.{pow-add}
use lib.Ieee.{Float, fin, binary64, up, down, minus, fits}
use lib.Ieee.Fits.{round-fits, up_pos, down_pos}
use Rattle.doubles.specs.Power.{root_top, root_power}
use Rattle.doubles.specs.Parts.{clamped}
use Rattle.doubles.specs.Nearest.{OddPower, EvenPower, PartRange, Nearest, NearestTo, PowerOfTwo}
use Rattle.doubles.proofs.Laws.Ratio.{ratio, minus-up, minus-down}
use Rattle.doubles.proofs.Laws.Exact.{exact}
use Rattle.doubles.proofs.Laws.Stepped.{even-plus, odd-plus, even-minus, odd-minus}

-- "(2m−1)² < 2^107 < (2m+1)²"
pub squares : ((2 * root_top - 1) * (2 * root_top - 1) < 2 ^ 107) × (2 ^ 107 < (2 * root_top + 1) * (2 * root_top + 1))
squares = (lit< tt, lit< tt)

-- the exponents of up z and down z
abbrev pub rise : ℤ → ℕ
rise (pos k) = k
rise (negsuc k) = 0

abbrev pub fall : ℤ → ℕ
fall (pos k) = 0
fall (negsuc k) = suc k

pub up_is : (z : ℤ) → up z ≡ 2 ^ rise z
up_is (pos k) = refl
up_is (negsuc k) = refl

pub down_is : (z : ℤ) → down z ≡ 2 ^ fall z
down_is (pos k) = refl
down_is (negsuc k) = refl

minus_is : (a b : ℕ) → rise (minus a b) + b ≡ a + fall (minus a b)
minus_is a b = go (leb b a) (leb→le b a) (nleb→lt b a)
  where
    go : (t : Bool) → (T t → b ≤ a) → (T (not t) → a < b) → rise (minus a b) + b ≡ a + fall (minus a b)
    go true f g = let l : b ≤ a = f tt in rw (minus-up (a - b) b a (omega arith)) (omega arith)
    go false f g = let l : a < b = g tt in rw (minus-down (b - suc a) b a (omega arith)) (omega arith)

-- both sides of the comparison as one power of two
balance : (a b x y : ℕ) → 2 + (a + (y + y)) ≡ 107 + (x + x + b) → 4 * (2 ^ a * (2 ^ y * 2 ^ y)) ≡ 2 ^ 107 * (2 ^ x * 2 ^ x * 2 ^ b)
balance a b x y e =
    sym (pow-add 2 2 (a + (y + y)) ∙ ap (λ (t : ℕ). 4 * t) (pow-add 2 a (y + y) ∙ ap (λ (t : ℕ). 2 ^ a * t) (pow-add 2 y y)))
    ∙ ap (λ (t : ℕ). 2 ^ t) e
    ∙ pow-add 2 107 (x + x + b)
    ∙ ap (λ (t : ℕ). 2 ^ 107 * t) (pow-add 2 (x + x) b ∙ ap (λ (t : ℕ). t * 2 ^ b) (pow-add 2 x x))

balanced : (s e : ℤ) → 2 + (rise s + (fall e + fall e)) ≡ 107 + (rise e + rise e + fall s)
    → 4 * (up s * (down e * down e)) ≡ 2 ^ 107 * (up e * up e * down s)
balanced s e h = rw (up_is s, up_is e, down_is s, down_is e) (balance (rise s) (fall s) (rise e) (fall e) h)

double-fits : (m a b d : ℕ) → m % 2 ≡ 1 → m < 2 ^ d → d ≤ 53 → b ≤ a + 1074 → d + (a + 1074 - b) ≤ 2098 → T (fits binary64 (ratio m a b))
double-fits m a b d o s t l h = subst (λ (x : Float). T (fits binary64 x)) (exact m a b d o s t l h) (round-fits binary64 false (m * 2 ^ a) (2 ^ b))

nearest : (s e : ℤ) → T (fits binary64 (fin false root_top e)) → 2 + (rise s + (fall e + fall e)) ≡ 107 + (rise e + rise e + fall s) → Nearest s root_top e
nearest s e f h =
    let positive : 0 < up e * up e * down s = mul-pos (mul-pos (up_pos e) (up_pos e)) (down_pos s) in
    record {
      double = f;
      digits = (lit< tt, lit< tt);
      under = rw (balanced s e h) (mul-lt-mul_of_pos_right squares.0 positive);
      over = rw (balanced s e h) (mul-lt-mul_of_pos_right squares.1 positive);
    }

pub odd-nearest : (s : ℤ) → OddPower s → PartRange s → NearestTo s (root_power s)
odd-nearest (pos n) o r =
    let z : n % 2 ≡ 0 → ⊥ = λ k. omega arith in
    subst (NearestTo (pos n)) (sym (odd-plus n z))
    (nearest (pos n) (minus (n / 2) 52) (double-fits root_top (n / 2) 52 53 refl (lit< tt) (lit≤ tt) (omega arith) (omega arith)) (omega (arith, minus_is (n / 2) 52)))
odd-nearest (negsuc n) o r =
    subst (NearestTo (negsuc n)) (sym (odd-minus n o))
    (nearest (negsuc n) (negsuc (n / 2 + 52))
    (subst (λ (e : ℤ). T (fits binary64 (fin false root_top e))) (minus-down (n / 2 + 52) (n / 2 + 53) 0 (omega arith))
    (double-fits root_top 0 (n / 2 + 53) 53 refl (lit< tt) (lit≤ tt) (omega arith) (omega arith)))
    (omega arith))

pub even-exact : (s : ℤ) → EvenPower s → PartRange s → PowerOfTwo s (root_power s)
even-exact (pos n) o r =
    subst (PowerOfTwo (pos n)) (sym (even-plus n o)) (
      subst (λ (e : ℤ). T (fits binary64 (fin false 1 e))) (minus-up (n / 2) 0 (n / 2) (omega arith))
          (double-fits 1 (n / 2) 0 1 refl (lit< tt) (lit≤ tt) (omega arith) (omega arith)),
      refl,
      ap pos (omega arith),
    )
even-exact (negsuc n) o r =
    let z : n % 2 ≡ 0 → ⊥ = λ k. omega arith in
    subst (PowerOfTwo (negsuc n)) (sym (even-minus n z)) (
      subst (λ (e : ℤ). T (fits binary64 (fin false 1 e))) (minus-down (n / 2) (n / 2 + 1) 0 (omega arith))
          (double-fits 1 0 (n / 2 + 1) 1 refl (lit< tt) (lit≤ tt) (omega arith) (omega arith)),
      refl,
      ap negsuc (omega arith),
    )

-- the powers that an amount's two components are made of
pred_in : (n : ℕ) → n ≤ 2001 → PartRange (pred_ℤ (pos n))
pred_in zero h = omega arith
pred_in (suc n) h = omega arith

pub held_in : (s : ℤ) → PartRange (clamped s) × PartRange (pred_ℤ (clamped s))
unfolding clamped
held_in (pos n) = (omega arith, pred_in (min n 2000) (omega arith))
held_in (negsuc n) = omega arith

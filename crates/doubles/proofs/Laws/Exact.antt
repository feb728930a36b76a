-- A doubling or a halving is exact while the exponent stays in range: the product rounds to a value that fits, which is the one written so.
use mathlib.Core.Path.{◌≡◌, refl, sym, ap, ap₂, ◌∙◌}
use Prim.Native.Nat.{ℕ, zero, suc, ◌+◌, ◌-◌, ◌*◌, ◌%◌, ◌^◌, ◌≤◌, ◌<◌}
use native.Mathlib.Nat.{one-mul, mul-pos, mul_assoc, lt_of_lt_of_le}
use native.Mathlib.Omega.{arith}
use mathlib.Core.Bool.{false}
use lib.Dec.{T}
use lib.Pow.{pow-add, pow_pos, pow_mono, shl_lt}
use lib.Ieee.{Float, binary64, mul, round}
use lib.Ieee.Fits.{round-fits}
use lib.Ieee.Exact.{round_exact}
use lib.Ieee.Scale.{round_same}
use lib.Ieee.Positive.{positive, positive_of_value, mul_at}
use Rattle.doubles.specs.Inner.Steps.{repeated}
use Rattle.doubles.proofs.Laws.Ratio.{ratio, value, odd_pos, unique}

-- a ratio in range is what rounding gives at its fraction
pub exact : (m a b d : ℕ) → m % 2 ≡ 1 → m < 2 ^ d → d ≤ 53 → b ≤ a + 1074 → d + (a + 1074 - b) ≤ 2098
    → round binary64 false (m * 2 ^ a) (2 ^ b) ≡ ratio m a b
exact m a b d o small short low-enough high-enough =
    let j = a + 1074 - b in
    let back : a + 1074 ≡ j + b = omega arith in
    unique (round binary64 false (m * 2 ^ a) (2 ^ b)) m a b o (round-fits binary64 false (m * 2 ^ a) (2 ^ b))
    (round_exact binary64 false (m * 2 ^ a) (2 ^ b) m j (pow_pos b) (lt_of_lt_of_le small (pow_mono short))
    (lt_of_lt_of_le (shl_lt d j small) (pow_mono high-enough))
    (mul_assoc m (2 ^ a) (2 ^ 1074) ∙ ap (λ (x : ℕ). m * x) (sym (pow-add 2 a 1074) ∙ ap (λ (x : ℕ). 2 ^ x) back ∙ pow-add 2 j b) ∙ sym (mul_assoc m (2 ^ j) (2 ^ b))))

ratio-positive : (m a b : ℕ) → m % 2 ≡ 1 → T (positive (ratio m a b))
ratio-positive m a b o = positive_of_value (ratio m a b) (m * 2 ^ a) (2 ^ b) (value m a b) (mul-pos (odd_pos m o) (pow_pos a))

-- a product with 2^i / 2^j, as a doubling or a halving is
pub product-exact : (m a b d i j : ℕ) → m % 2 ≡ 1 → m < 2 ^ d → d ≤ 53 → b + j ≤ a + i + 1074 → d + (a + i + 1074 - (b + j)) ≤ 2098
    → mul binary64 (ratio m a b) (ratio 1 i j) ≡ ratio m (a + i) (b + j)
product-exact m a b d i j o small short low-enough high-enough =
    mul_at binary64 (ratio m a b) (ratio 1 i j) (m * 2 ^ a) (2 ^ b) (1 * 2 ^ i) (2 ^ j) (ratio-positive m a b o) (ratio-positive 1 i j refl) (pow_pos b) (pow_pos j) (value m a b) (value 1 i j)
    ∙ round_same binary64 false (m * 2 ^ a * (1 * 2 ^ i)) (2 ^ b * 2 ^ j) (m * 2 ^ (a + i)) (2 ^ (b + j)) (mul-pos (pow_pos b) (pow_pos j)) (pow_pos (b + j))
    (ap₂ (λ (x y : ℕ). x * y) (ap (λ (x : ℕ). m * 2 ^ a * x) (one-mul (2 ^ i)) ∙ mul_assoc m (2 ^ a) (2 ^ i) ∙ ap (λ (x : ℕ). m * x) (sym (pow-add 2 a i))) (pow-add 2 b j))
    ∙ exact m (a + i) (b + j) d o small short low-enough high-enough

-- n products with f, each of which goes from g k to g (k + 1)
pub repeat : (x f : Float) (g : ℕ → Float) (n : ℕ) → x ≡ g 0 → ((k : ℕ) → k < n → mul binary64 (g k) f ≡ g (suc k)) → repeated x f n ≡ g n
unfolding repeated
repeat x f g zero e h = e
repeat x f g (suc n) e h = ap (λ (y : Float). mul binary64 y f) (repeat x f g n e (λ k l. h k (omega arith))) ∙ h n (omega arith)

-- A double written as m · 2^a / 2^b: a value that fits and has this value, with m odd, is written so in one way.
use mathlib.Core.Path.{◌≡◌, refl, sym, ap, ◌∙◌, subst}
use Prim.Native.Nat.{ℕ, zero, suc, ◌+◌, ◌-◌, ◌*◌, ◌%◌, ◌^◌, ◌≤◌, ◌<◌}
use native.Mathlib.Nat.{mul-one, zero-mul, mul-pos, lt_irrefl, zero-lt-suc, pow-succ', pow-suc, mul_assoc, mul_left_comm, eq_of_mul-eq-mul_right}
use native.Mathlib.Omega.{arith}
use mathlib.Core.Bool.{Bool, true, false, not, ◌&&◌}
use lib.IntN.{ℤ, pos, negsuc}
use lib.Dec.{T, ltb, leb, eqb, eqb→eq, leb→le, nleb→lt}
use lib.Pow.{pow-add, pow_pos}
use borrow.Author.Tests.{le-leb, lt-leb}
use lib.Ieee.{Float, fin, inf, nan, Format, binary64, prec, emax, low, up, down, minus, fits}
use lib.Ieee.Digits.{minus_val}
use lib.Ieee.Fits.{and_l, down_pos}
use lib.Ieee.Exact.{HasValue}

-- m · 2^a / 2^b
abbrev pub ratio : ℕ → ℕ → ℕ → Float
ratio m a b = fin false m (minus a b)

pub value : (m a b : ℕ) → HasValue (ratio m a b) false (m * 2 ^ a) (2 ^ b)
value m a b = (refl, minus_val m a b)

-- an odd number times a power of two is so in one way
even_odd : (m t : ℕ) → m % 2 ≡ 1 → m ≡ 2 * t → ⊥
even_odd m t o h = omega arith

odd_pow : (m n a b : ℕ) → m % 2 ≡ 1 → n % 2 ≡ 1 → m * 2 ^ a ≡ n * 2 ^ b → (m ≡ n) × (a ≡ b)
odd_pow m n zero zero o p h = (sym (mul-one m) ∙ h ∙ mul-one n, refl)
odd_pow m n zero (suc b) o p h = absurd (even_odd m (n * 2 ^ b) o (sym (mul-one m) ∙ h ∙ ap (λ (x : ℕ). n * x) (pow-succ' 2 b) ∙ mul_left_comm n 2 (2 ^ b)))
odd_pow m n (suc a) zero o p h = absurd (even_odd n (m * 2 ^ a) p (sym (mul-one n) ∙ sym h ∙ ap (λ (x : ℕ). m * x) (pow-succ' 2 a) ∙ mul_left_comm m 2 (2 ^ a)))
odd_pow m n (suc a) (suc b) o p h =
    let r = odd_pow m n a b o p (eq_of_mul-eq-mul_right 2 (zero-lt-suc 1) (m * 2 ^ a) (n * 2 ^ b)
    (mul_assoc m (2 ^ a) 2 ∙ ap (λ (x : ℕ). m * x) (sym (pow-suc 2 a)) ∙ h ∙ ap (λ (x : ℕ). n * x) (pow-suc 2 b) ∙ sym (mul_assoc n (2 ^ b) 2))) in
    (r.0, ap suc r.1)

is_odd : (f : Format) (s : Bool) (m : ℕ) (e : ℤ) → T (fits f (fin s (suc m) e)) → suc m % 2 ≡ 1
unfolding fits
is_odd f s m e t =
    eqb→eq (suc m % 2) 1 (and_l (eqb (suc m % 2) 1) (ltb (suc m) (2 ^ prec f)) (and_l (eqb (suc m % 2) 1 && ltb (suc m) (2 ^ prec f)) (leb (down e) (2 ^ low f))
    (and_l (eqb (suc m % 2) 1 && ltb (suc m) (2 ^ prec f) && leb (down e) (2 ^ low f)) (ltb (suc m * up e) (2 ^ suc (emax f) * down e)) t)))

pub minus-up : (k b a : ℕ) → k + b ≡ a → minus a b ≡ pos k
minus-up k b a e = let h : b ≤ a = omega arith in let d : a - b ≡ k = omega arith in rw (le-leb b a h, d)

pub minus-down : (k b a : ℕ) → b ≡ suc (a + k) → minus a b ≡ negsuc k
minus-down k b a e = let h : a < b = omega arith in let d : b - suc a ≡ k = omega arith in rw (lt-leb b a h, d)

pub odd_pos : (m : ℕ) → m % 2 ≡ 1 → 0 < m
odd_pos m o = omega arith

no_zero : (m a c u d : ℕ) → m % 2 ≡ 1 → 0 < d → zero * u * c ≡ m * 2 ^ a * d → ⊥
no_zero m a c u d o h e =
    lt_irrefl 0 (subst (λ (x : ℕ). 0 < x) (sym e ∙ ap (λ (y : ℕ). y * c) (zero-mul u) ∙ zero-mul c) (mul-pos (mul-pos (odd_pos m o) (pow_pos a)) h))

-- a value that fits and has the value m * 2 ^ a / 2 ^ b, with m odd, is written so
pub unique : (x : Float) (m a b : ℕ) → m % 2 ≡ 1 → T (fits binary64 x) → HasValue x false (m * 2 ^ a) (2 ^ b) → x ≡ ratio m a b
unique nan m a b o p v = elim v [ ]
unique (inf _) m a b o p v = elim v [ ]
unique (fin t zero e) m a b o p v = absurd (no_zero m a (2 ^ b) (up e) (down e) o (down_pos e) v.1)
unique (fin t (suc n) (pos k)) m a b o p v =
    let r = odd_pow (suc n) m (k + b) a (is_odd binary64 t n (pos k) p) o (ap (λ (x : ℕ). suc n * x) (pow-add 2 k b) ∙ sym (mul_assoc (suc n) (2 ^ k) (2 ^ b)) ∙ v.1 ∙ mul-one (m * 2 ^ a)) in
    λ i. fin (v.0 i) (r.0 i) (sym (minus-up k b a r.1) i)
unique (fin t (suc n) (negsuc k)) m a b o p v =
    let r = odd_pow (suc n) m b (a + suc k) (is_odd binary64 t n (negsuc k) p) o (ap (λ (x : ℕ). x * 2 ^ b) (sym (mul-one (suc n))) ∙ v.1 ∙ mul_assoc m (2 ^ a) (2 ^ suc k) ∙ ap (λ (x : ℕ). m * x) (sym (pow-add 2 a (suc k)))) in
    λ i. fin (v.0 i) (r.0 i) (sym (minus-down k b a (r.1 ∙ omega arith)) i)

-- the same difference is the same exponent
minus-same : (a b c d : ℕ) → a + d ≡ c + b → minus a b ≡ minus c d
minus-same a b c d e = go (leb b a) (leb→le b a) (nleb→lt b a)
  where
    go : (t : Bool) → (T t → b ≤ a) → (T (not t) → a < b) → minus a b ≡ minus c d
    go true h g = let l : b ≤ a = h tt in minus-up (a - b) b a (omega arith) ∙ sym (minus-up (a - b) d c (omega arith))
    go false h g = let l : a < b = g tt in minus-down (b - suc a) b a (omega arith) ∙ sym (minus-down (b - suc a) d c (omega arith))

pub ratio-same : (m a b c d : ℕ) → a + d ≡ c + b → ratio m a b ≡ ratio m c d
ratio-same m a b c d e = ap (λ (z : ℤ). fin false m z) (minus-same a b c d e)

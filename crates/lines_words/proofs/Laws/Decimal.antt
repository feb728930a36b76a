-- The digits are the number in decimal: read back they give it, each is one of 0..9, and the first is no 0 unless the number is. By induction on a bound of the number.
use mathlib.Core.Logic.{⊎_elim}
use mathlib.Core.Path.{◌≡◌, refl, sym, ap, ◌∙◌}
use mathlib.Core.List.{List, [], ◌∷◌, ◌++◌}
use Prim.Native.Nat.{ℕ, zero, suc, ◌+◌, ◌-◌, ◌*◌, ◌/◌, ◌%◌, ◌≤◌, ◌<◌}
use native.Mathlib.Omega.{arith}
use lib.ListN.{length, get_or}
use Rattle.exact.proofs.Laws.Sum.{split}
use Rattle.lines_words.specs.Text.{digits}
use Rattle.lines_words.proofs.Laws.Digits.{digits-one, digits_more}

-- what holds of the digits below ten, and of any other number where it holds of a tenth of it, holds of all
module _ (P : ℕ → Type 0) (low : (n : ℕ) → n < 10 → P n) (high : (n : ℕ) → 10 ≤ n → P (n / 10) → P n) where
  upto : (k n : ℕ) → n ≤ k → P n
  upto zero n h = low n (omega arith)
  upto (suc k) n h = ⊎_elim (λ (s : n < 10). low n s) (λ (s : 10 ≤ n). high n s (upto k (n / 10) (omega arith))) (split n 10)

  by-tenths : (n : ℕ) → P n
  by-tenths n = upto n n (omega arith)

-- a text of digits read from the left, behind a number that was read already
abbrev pub number_of : ℕ → List ℕ → ℕ
number_of n [] = n
number_of n (d ∷ ds) = number_of (10 * n + (d - 48)) ds

number_of-more : (n : ℕ) (ds : List ℕ) (d : ℕ) → number_of n (ds ++ (d ∷ [])) ≡ 10 * number_of n ds + (d - 48)
number_of-more n [] d = refl
number_of-more n (c ∷ ds) d = number_of-more (10 * n + (c - 48)) ds d

-- read back, the digits give the number: so no two numbers have the same text
pub digits_value : (n : ℕ) → number_of 0 (digits n) ≡ n
digits_value =
    by-tenths (λ n. number_of 0 (digits n) ≡ n)
    (λ n h. rw (digits-one n h) (omega arith))
    (λ n h ih. rw (digits_more n h) (number_of-more 0 (digits (n / 10)) (48 + n % 10) ∙ omega arith))

pub digits-apart : (n m : ℕ) → digits n ≡ digits m → n ≡ m
digits-apart n m e = sym (digits_value n) ∙ ap (number_of 0) e ∙ digits_value m

-- each is one of 0..9
abbrev pub Decimal : List ℕ → Type 0
Decimal [] = Unit {0}
Decimal (d ∷ ds) = (48 ≤ d) × (d < 58) × Decimal ds

decimal-more : (ds : List ℕ) (d : ℕ) → Decimal ds → 48 ≤ d → d < 58 → Decimal (ds ++ (d ∷ []))
decimal-more [] d h l g = (l, g, tt)
decimal-more (c ∷ ds) d h l g = (h.0, h.1, decimal-more ds d h.2 l g)

pub digits_decimal : (n : ℕ) → Decimal (digits n)
digits_decimal =
    by-tenths (λ n. Decimal (digits n))
    (λ n h. rw (digits-one n h) (omega arith, omega arith, tt))
    (λ n h ih. rw (digits_more n h) (decimal-more (digits (n / 10)) (48 + n % 10) ih (omega arith) (omega arith)))

-- the first digit of a number above 0 is no 0
Led : List ℕ → Type 0
Led ds = (0 < length ds) × (48 < get_or ds 0 0)

led-more : (ds : List ℕ) (d : ℕ) → Led ds → Led (ds ++ (d ∷ []))
unfolding Led
led-more [] d h = absurd (omega arith)
led-more (c ∷ ds) d h = (omega arith, h.1)

pub digits-first : (n : ℕ) → 0 < n → 48 < get_or (digits n) 0 0
unfolding Led
digits-first n h =
    (by-tenths (λ n. 0 < n → Led (digits n))
    (λ n h p. rw (digits-one n h) (omega arith, omega arith))
    (λ n h ih p. rw (digits_more n h) (led-more (digits (n / 10)) (48 + n % 10) (ih (omega arith))))
    n h).1

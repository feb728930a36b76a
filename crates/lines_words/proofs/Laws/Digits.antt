-- The laws of decimal digits: the digits of a number are those of a tenth of it, then its last one. By induction on the bound of their count.
use mathlib.Core.Logic.{⊎_elim}
use mathlib.Core.Path.{◌≡◌, sym, ap, ◌∙◌}
use mathlib.Core.List.{List, [], ◌∷◌, ◌++◌}
use Prim.Native.Nat.{ℕ, zero, suc, ◌+◌, ◌/◌, ◌%◌, ◌^◌, ◌≤◌, ◌<◌}
use native.Mathlib.Omega.{arith}
use borrow.Author.Tests.{lt-ltb, le-ltb}
use lib.ListN.{length, length-append}
use Rattle.exact.proofs.Laws.Sum.{split}
use Rattle.lines_words.specs.Text.{last_digits, digits}

one : (k n : ℕ) → n < 10 → last_digits (suc k) n ≡ (48 + n) ∷ []
unfolding last_digits
one k n h = rw (lt-ltb n 10 h)

more : (k n : ℕ) → 10 ≤ n → last_digits (suc k) n ≡ last_digits k (n / 10) ++ ((48 + n % 10) ∷ [])
unfolding last_digits
more k n h = rw (le-ltb n 10 h)

-- any bound that is large enough gives all the digits
enough : (k m n : ℕ) → n ≤ k → n ≤ m → last_digits (suc k) n ≡ last_digits (suc m) n
enough zero m n h l = one zero n (omega arith) ∙ sym (one m n (omega arith))
enough (suc k) zero n h l = one (suc k) n (omega arith) ∙ sym (one zero n (omega arith))
enough (suc k) (suc m) n h l =
    ⊎_elim
    (λ (s : n < 10). one (suc k) n s ∙ sym (one (suc m) n s))
    (λ (s : 10 ≤ n). more (suc k) n s ∙ ap (λ (ds : List ℕ). ds ++ ((48 + n % 10) ∷ [])) (enough k m (n / 10) (omega arith) (omega arith)) ∙ sym (more (suc m) n s))
    (split n 10)

-- a number below ten is its digit
pub digits-one : (n : ℕ) → n < 10 → digits n ≡ (48 + n) ∷ []
unfolding digits
digits-one n h = one n n h

-- any other has the digits of a tenth of it, then its last one
pub digits_more : (n : ℕ) → 10 ≤ n → digits n ≡ digits (n / 10) ++ ((48 + n % 10) ∷ [])
unfolding digits
digits_more zero h = absurd (omega arith)
digits_more (suc n) h =
    more (suc n) (suc n) h ∙ ap (λ (ds : List ℕ). ds ++ ((48 + suc n % 10) ∷ [])) (enough n (suc n / 10) (suc n / 10) (omega arith) (omega arith))

-- a number below 10^(k + 1) has at most k + 1 digits
pub digits-length : (k n : ℕ) → n < 10 ^ suc k → length (digits n) ≤ suc k
digits-length zero n h = rw (digits-one n (omega arith)) (omega arith)
digits-length (suc k) n h =
    ⊎_elim
    (λ (s : n < 10). rw (digits-one n s) (omega arith))
    (λ (s : 10 ≤ n). rw (digits_more n s) (simp length-append (omega (arith, digits-length k (n / 10) (omega arith)))))
    (split n 10)

-- What one item more leaves, case by case; how the parts compose; how counts stop at 65,537.
use mathlib.Core.List.{List, [], ◌∷◌, ◌++◌}
use mathlib.Core.Logic.{◌≢◌}
use mathlib.Core.Path.{◌≡◌, refl, sym, ap, ◌∙◌}
use Prim.Native.Nat.{ℕ, zero, suc, ◌+◌, ◌-◌, ◌*◌, ◌<◌, ◌≤◌}
use native.Mathlib.Omega.{arith}
use lib.ListN.{length}
use borrow.Author.Tests.{eq-eqb, ne_eqb}
use Rattle.blocks.specs.Expansion.{code_at, wire_at, item_count, again, led, shut, opened, levels}
use Rattle.blocks.specs.Inner.Spans.{rest, onto, before}

-- ---- composing
pub append_assoc : (a b c : List ℕ) → (a ++ b) ++ c ≡ a ++ (b ++ c)
append_assoc [] b c = refl
append_assoc (x ∷ a) b c = ap (λ l. x ∷ l) (append_assoc a b c)

pub before-none : (ls : List (List ℕ)) → before [] ls ≡ ls
before-none [] = refl
before-none (l ∷ ls) = refl

pub before-before : (e f : List ℕ) (ls : List (List ℕ)) → before e (before f ls) ≡ before (e ++ f) ls
before-before e f [] = refl
before-before e f (l ∷ ls) = ap (λ (k : List ℕ). k ∷ ls) (sym (append_assoc e f l))

pub append-nil : (a : List ℕ) → a ++ [] ≡ a
append-nil [] = refl
append-nil (x ∷ a) = ap (λ l. x ∷ l) (append-nil a)

pub before-shut : (e : List ℕ) (ls : List (List ℕ)) → before e (shut ls) ≡ onto e ls
before-shut e [] = refl
before-shut e (l ∷ ls) = ap (λ (k : List ℕ). k ∷ (l ∷ ls)) (append-nil e)

pub opened-onto : (n : ℕ) (e : List ℕ) (ls : List (List ℕ)) → e ≢ [] → opened n (onto e ls) ≡ before (again n e) ls
opened-onto n [] ls ne = absurd (ne refl)
opened-onto n (x ∷ e) [] ne = refl
opened-onto n (x ∷ e) (l ∷ ls) ne = refl

pub opened-hollow : (n : ℕ) (ls : List (List ℕ)) → opened n (onto [] ls) ≡ []
opened-hollow n [] = refl
opened-hollow n (l ∷ ls) = refl

pub led-before : (j : ℕ) (ls : List (List ℕ)) → led j ls ≡ before (j ∷ []) ls
led-before j [] = refl
led-before j (l ∷ ls) = refl

-- ---- one item more
module _ (bs : List ℕ) (j d : ℕ) (l : j < item_count bs) where
  step : item_count bs - j ≡ suc (item_count bs - suc j)
  step = omega arith

  pub rest_plain : code_at bs j ≢ 64 → code_at bs j ≢ 65 → rest bs j d ≡ before (j ∷ []) (rest bs (suc j) d)
  unfolding rest levels
  rest_plain a b = ap (λ (k : ℕ). levels bs k j d) step ∙ rw (ne_eqb (code_at bs j) 64 a, ne_eqb (code_at bs j) 65 b) (led-before j (levels bs (item_count bs - suc j) (suc j) d))

  pub rest-open : code_at bs j ≡ 64 → d ≢ 0 → rest bs j d ≡ opened (wire_at bs j) (rest bs (suc j) (d - 1))
  unfolding rest levels
  rest-open a b = ap (λ (k : ℕ). levels bs k j d) step ∙ rw (eq-eqb (code_at bs j) 64 a, ne_eqb d 0 b)

  pub rest-deep : code_at bs j ≡ 64 → d ≡ 0 → rest bs j d ≡ []
  unfolding rest levels
  rest-deep a b = ap (λ (k : ℕ). levels bs k j d) step ∙ rw (eq-eqb (code_at bs j) 64 a, eq-eqb d 0 b)

  other : code_at bs j ≡ 65 → code_at bs j ≢ 64
  other a b = omega arith

  pub rest-close : code_at bs j ≡ 65 → d ≢ 8 → rest bs j d ≡ shut (rest bs (suc j) (suc d))
  unfolding rest levels
  rest-close a b = ap (λ (k : ℕ). levels bs k j d) step ∙ rw (ne_eqb (code_at bs j) 64 (other a), eq-eqb (code_at bs j) 65 a, ne_eqb d 8 b)

pub rest-top : (bs : List ℕ) (j d : ℕ) → j < item_count bs → code_at bs j ≡ 65 → d ≡ 8 → rest bs j d ≡ []
unfolding rest levels
rest-top bs j d l a b = ap (λ (k : ℕ). levels bs k j d) (step bs j d l) ∙ rw (ne_eqb (code_at bs j) 64 (other bs j d l a), eq-eqb (code_at bs j) 65 a, eq-eqb d 8 b)

pub rest-done : (bs : List ℕ) (j d : ℕ) → item_count bs ≤ j → d ≡ 8 → rest bs j d ≡ [] ∷ []
unfolding rest levels
rest-done bs j d l b = let z : item_count bs - j ≡ 0 = omega arith in ap (λ (k : ℕ). levels bs k j d) z ∙ rw (eq-eqb d 8 b)

pub rest_end : (bs : List ℕ) (j d : ℕ) → item_count bs ≤ j → d ≢ 8 → rest bs j d ≡ []
unfolding rest levels
rest_end bs j d l b = let z : item_count bs - j ≡ 0 = omega arith in ap (λ (k : ℕ). levels bs k j d) z ∙ rw (ne_eqb d 8 b)

-- ---- counts
pub length-append : (a b : List ℕ) → length (a ++ b) ≡ length a + length b
length-append [] b = omega arith
length-append (x ∷ a) b = omega (arith, length-append a b)

pub length-again : (n : ℕ) (e : List ℕ) → length (again n e) ≡ n * length e
unfolding again
length-again zero e = omega arith
length-again (suc n) e = length-append e (again n e) ∙ omega (arith, length-again n e)

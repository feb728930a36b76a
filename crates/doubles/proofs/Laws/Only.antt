-- No second result: two results with the same number and the same values are one, so an amount has one result.
use mathlib.Core.Path.{◌≡◌, sym, ap, ◌∙◌}
use mathlib.Core.List.{List, [], ◌∷◌}
use Prim.Native.Nat.{ℕ}
use native.Mathlib.Omega.{arith}
use lib.Ieee.{Float}
use Rattle.exact.specs.declared.Amount.{Amount}
use Rattle.exact.proofs.Laws.Code.{code-only}
use Rattle.doubles.specs.Answer.{Doubles, Refused, Zero, Value, Answer, answer, answer_of}
use mathlib.Core.List.{List, []}
use mathlib.Core.Logic.{◌≢◌, ⊎_elim}
use mathlib.Core.Path.{◌≡◌, sym, ap, ap₂, ◌∙◌}
use Rattle.exact.specs.Refusal.{accepted}
use Rattle.bits.proofs.Laws.Bit.{same_or}
use Rattle.state.specs.declared.State.{State}
use Rattle.state.specs.Normal.{Normal}
use Rattle.doubles.specs.Answer.{Doubles, Answer, answer, answer_of}
use Rattle.doubles.specs.Entry.{DoublesAt}

-- lists of different lengths differ
none-one : (x : Float) → ◌≡◌ {A = List Float} [] (x ∷ []) → ⊥
none-one x e = let z : ◌≡◌ {A = ℕ} 0 1 = cc in omega arith

none-two : (x y : Float) → ◌≡◌ {A = List Float} [] (x ∷ y ∷ []) → ⊥
none-two x y e = let z : ◌≡◌ {A = ℕ} 0 1 = cc in omega arith

pub one-two : (x y z : Float) → ◌≡◌ {A = List Float} (x ∷ []) (y ∷ z ∷ []) → ⊥
one-two x y z e = let z : ◌≡◌ {A = ℕ} 0 1 = cc in omega arith

pub values_of : (a b : Answer) → a ≡ b → a.values ≡ b.values
values_of a b e = ap (λ (x : Answer). x.values) e

pub same_answer : (x y : Doubles) → answer x ≡ answer y → x ≡ y
unfolding answer
same_answer (Refused k) (Refused j) e = ap Refused (code-only k j (ap (λ (a : Answer). a.number) e))
same_answer (Refused k) Zero e = absurd (none-one _ (values_of _ _ e))
same_answer (Refused k) (Value x y) e = absurd (none-two _ _ (values_of _ _ e))
same_answer Zero (Refused k) e = absurd (none-one _ (sym (values_of _ _ e)))
same_answer Zero Zero e = cc
same_answer Zero (Value x y) e = absurd (one-two _ _ _ (values_of _ _ e))
same_answer (Value x y) (Refused k) e = absurd (none-two _ _ (sym (values_of _ _ e)))
same_answer (Value x y) Zero e = absurd (one-two _ _ _ (sym (values_of _ _ e)))
same_answer (Value x y) (Value u v) e = let l = values_of _ _ e in cc

pub one_answer : (a : Amount) (x y : Doubles) → answer x ≡ answer_of a → answer y ≡ answer_of a → x ≡ y
one_answer a x y p q = same_answer x y (p ∙ sym q)

-- ---- an entry has one
module _ (t : State) (x : ℕ) where
  -- the numbers of two results agree: where they differ the table is neither normal nor not
  one_number : (r s : Doubles) → DoublesAt t x r → DoublesAt t x s → (answer r).number ≡ (answer s).number
  one_number r s f g = ⊎_elim (λ e. e) (λ ne. absurd (ne (differ ne))) (same_or (answer r).number (answer s).number)
    where
      differ : (answer r).number ≢ (answer s).number → (answer r).number ≡ (answer s).number
      differ ne = let h : Normal t → ⊥ = λ N. ne (f.sound N ∙ sym (g.sound N)) in f.broken h ∙ sym (g.broken h)

  same_parts : (a b : Answer) → a.number ≡ b.number → a.values ≡ b.values → a ≡ b
  same_parts a b e f = ap₂ (λ (n : ℕ) (v : List Float). record { number = n; values = v }) e f

  pub one-doubles : (r s : Doubles) → DoublesAt t x r → DoublesAt t x s → r ≡ s
  one-doubles r s f g = same_answer r s (⊎_elim given refused (same_or (answer r).number accepted))
    where
      both : (answer r).number ≡ (answer s).number
      both = one_number r s f g

      given : (answer r).number ≡ accepted → answer r ≡ answer s
      given e = f.done e ∙ sym (g.done (sym both ∙ e))

      refused : (answer r).number ≢ accepted → answer r ≡ answer s
      refused ne = same_parts _ _ both (f.none ne ∙ sym (g.none (λ z. ne (both ∙ z))))

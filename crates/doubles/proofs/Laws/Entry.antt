-- An answer of Entry as doubles keeps the promise of Doubles, and no second result does.
use mathlib.Core.List.{[]}
use mathlib.Core.Logic.{◌≢◌}
use mathlib.Core.Path.{◌≡◌, refl, sym, ap, ◌∙◌}
use Prim.Native.Nat.{ℕ}
use Rattle.std.specs.Prelude.{Result, Ok, Err}
use Rattle.exact.specs.declared.Refusal.{Refusal}
use Rattle.exact.specs.Code.{code_of, refusal_in}
use Rattle.exact.specs.declared.Amount.{Amount}
use Rattle.exact.specs.declared.Amount.TheVariants.{Some}
use Rattle.exact.specs.Refusal.{accepted}
use Rattle.bits.specs.Mask.{bit}
use Rattle.state.specs.declared.State.{State}
use Rattle.state.specs.Entry.{entry}
use Rattle.call_answers.specs.Answers.{EntryAt}
use Rattle.doubles.specs.Answer.{Doubles, Answer, answer, parts_of, answer_of}
use Rattle.doubles.specs.Inner.Answer.{answer_for}
use Rattle.doubles.specs.Entry.{DoublesAt}
use Rattle.exact.specs.declared.Amount.TheVariants.{Zero as NoAmount}

-- an amount's answer is no refusal
amount-number : (a : Amount) → (answer_of a).number ≡ accepted
unfolding answer_of parts_of
amount-number NoAmount = refl
amount-number (Some s c) = refl

-- the number is the answer's own
kept-number : (a : Result Amount Refusal) → (answer_for a).number ≡ refusal_in a
unfolding answer_for
kept-number (Err k) = refl
kept-number (Ok a) = amount-number a

-- a refusal has no values
no-values : (a : Result Amount Refusal) → refusal_in a ≢ accepted → (answer_for a).values ≡ []
unfolding answer_for
no-values (Err k) ne = refl
no-values (Ok a) ne = absurd (ne refl)

given-values : (a : Amount) → answer_for (Ok a) ≡ answer_of a
unfolding answer_for
given-values a = refl

module _ (t : State) (x : ℕ) where
  pub doubles-at : (a : Result Amount Refusal) (r : Doubles) → EntryAt t x a → answer r ≡ answer_for a → DoublesAt t x r
  doubles-at a r w e =
      record {
        broken = λ h. number ∙ w.broken h;
        sound = λ h. number ∙ w.sound h;
        none = λ ne. ap (λ (q : Answer). q.values) e ∙ no-values a (λ z. ne (number ∙ z));
        done = λ d. e ∙ ap answer_for (w.done (sym number ∙ d)) ∙ given-values (entry t (bit x));
      }
    where
      number : (answer r).number ≡ refusal_in a
      number = ap (λ (q : Answer). q.number) e ∙ kept-number a

-- What a circuit's body answers on each way through the code: too short, or what the amplitude of its circuit answers.
use mathlib.Core.List.{List}
use mathlib.Core.Path.{◌≡◌, refl, sym, ap, ap₂, ◌∙◌, subst}
use Prim.Native.Nat.{ℕ, ◌-◌, ◌≤◌, ◌<◌}
use native.Mathlib.Omega.{arith}
use lib.Dec.{ltb}
use lib.ListN.{length, take, drop}
use borrow.Author.Tests.{lt-ltb, le-ltb}
use Rattle.std.specs.Prelude.{Result, Ok, Err}
use Rattle.exact.specs.declared.Amount.{Amount}
use Rattle.exact.specs.declared.Refusal.{Refusal}
use Rattle.fields.proofs.Laws.Front.{lent-part}
use Rattle.gates.specs.Circuit.{circuit_number}
use Rattle.gates.proofs.Laws.Small.{either_number, circuit-small}
use Rattle.state.specs.Entry.{fresh_table}
use Rattle.state.specs.declared.State.{State}
use Rattle.circuit.specs.Amplitude.{Amplitude}
use Rattle.book_bodies.specs.Number.{input_of, output_of, gates_of, circuit_body_number}
use Rattle.book_bodies.specs.Answer.{Said, Body, body, refusal, CircuitAnswer}
use Rattle.book_bodies.specs.Inner.Said.{said_of}

module _ (ed n : ℕ) (bs : List ℕ) where
  pub short-number : length bs < 8 → circuit_body_number ed n bs ≡ 11
  unfolding circuit_body_number
  short-number h = rw (lt-ltb (length bs) 8 h)

  long-number : 8 ≤ length bs → circuit_body_number ed n bs ≡ circuit_number ed n (input_of bs) (output_of bs) (gates_of bs)
  unfolding circuit_body_number
  long-number h = rw (le-ltb (length bs) 8 h)

  pub circuit-body-small : circuit_body_number ed n bs ≤ 16
  unfolding circuit_body_number
  circuit-body-small = either_number (ltb (length bs) 8) _ _ (omega arith) (circuit-small ed n (input_of bs) (output_of bs) (gates_of bs))

  pub circuit-short : (r : Body) → length bs < 8 → r ≡ refusal 11 → CircuitAnswer ed n bs r
  circuit-short r h e = record {
    refused = λ ne. e ∙ ap refusal (sym (short-number h));
    given = λ z. absurd (omega (arith, z, short-number h));
    value = λ z. absurd (omega (arith, z, short-number h));
  }

  module _ (h : 8 ≤ length bs) where
    of-answer : (a : Result Amount Refusal) → Amplitude ed n (input_of bs) (output_of bs) (gates_of bs) a → CircuitAnswer ed n bs (body (said_of a) fresh_table)
    of-answer (Err k) A = record {
      refused = λ ne. ap refusal (A.number ∙ sym (long-number h));
      given = λ z. absurd (none z);
      value = λ z. absurd (none z);
    }
      where
        none : circuit_body_number ed n bs ≡ 0 → ⊥
        none z = A.value (sym (long-number h) ∙ z)
    of-answer (Ok a) A = record {
      refused = λ ne. absurd (ne (long-number h ∙ sym A.number));
      given = λ z. refl;
      value = λ z. A;
    }

    -- the circuit that the code was handed: two numbers read, and the part behind them
    pub circuit-law : (a : Result Amount Refusal) (s : Said) (t : State) (i o : ℕ) → Amplitude ed n i o (take (length bs - 8) (drop 8 bs)) a → i ≡ input_of bs → o ≡ output_of bs → s ≡ said_of a → t ≡ fresh_table → CircuitAnswer ed n bs (body s t)
    circuit-law a s t i o A p q e f =
        let B = subst (λ (v : ℕ). Amplitude ed n v o (take (length bs - 8) (drop 8 bs)) a) p A in
        let C = subst (λ (v : ℕ). Amplitude ed n (input_of bs) v (take (length bs - 8) (drop 8 bs)) a) q B in
        let D = subst (λ (l : List ℕ). Amplitude ed n (input_of bs) (output_of bs) l a) (lent-part bs 8) C in
        subst (CircuitAnswer ed n bs) (sym (ap₂ body e f)) (of-answer a D)

  -- the number of the circuit that the code was handed
  pub number-law : 8 ≤ length bs → (k i o : ℕ) → k ≡ circuit_number ed n i o (take (length bs - 8) (drop 8 bs)) → i ≡ input_of bs → o ≡ output_of bs → k ≡ circuit_body_number ed n bs
  number-law h k i o e p q =
      e
      ∙ ap₂ (λ (v w : ℕ). circuit_number ed n v w (take (length bs - 8) (drop 8 bs))) p q
      ∙ ap (circuit_number ed n (input_of bs) (output_of bs)) (lent-part bs 8)
      ∙ sym (long-number h)

-- No second result: of a body's number and of what a body answers on its own. By the truth of each test.
use mathlib.Core.Bool.{Bool, true, false}
use mathlib.Core.List.{List}
use mathlib.Core.Logic.{⊎_elim}
use mathlib.Core.Path.{◌≡◌, refl, sym, ap, ◌∙◌}
use Prim.Native.Nat.{ℕ}
use Rattle.std.specs.Prelude.{Result, Ok, Err}
use Rattle.circuit.specs.Inner.Held.{amount_of}
use Rattle.bits.proofs.Laws.Bit.{same_or}
use Rattle.state.specs.Normal.{Normal}
use Rattle.exact.specs.declared.Chance.{Chance}
use Rattle.exact.specs.declared.Chance.TheVariants.{Never}
use Rattle.exact.specs.declared.Refusal.{Refusal}
use Rattle.contents.specs.Contents.{good_kind}
use Rattle.contents.proofs.Laws.Entry.{kind-cases}
use Rattle.circuit.proofs.Laws.Only.{one-amplitude}
use Rattle.record.proofs.Laws.Only.{one-chance}
use Rattle.body_bytes.specs.Body.{body_fault}
use Rattle.body_read.specs.Table.{table_of}
use Rattle.book_bodies.specs.Number.{input_of, output_of, gates_of, circuit_body_number, record_gates, record_body_number, TableNumber, OwnNumber}
use Rattle.book_bodies.specs.Answer.{Body, said_number, said_amount, said_chance, circuit_body, record_body, CircuitAnswer, RecordAnswer, TableAnswer}

-- the chance that an answer holds
abbrev chance_of : Result Chance Refusal → Chance
chance_of (Ok c) = c
chance_of (Err r) = Never

-- ---- a table's body
module _ (n : ℕ) (bs : List ℕ) where
  pub one-table-number : (k m : ℕ) → TableNumber n bs k → TableNumber n bs m → k ≡ m
  one-table-number k m K M = by (body_fault n bs) refl
    where
      by : (f : Bool) → body_fault n bs ≡ f → k ≡ m
      by true h = K.fault h ∙ sym (M.fault h)
      by false h =
          ⊎_elim (λ z. z ∙ sym (M.sound h (K.normal z)))
          (λ ne. let b : Normal (table_of n bs) → ⊥ = λ t. ne (K.sound h t) in K.broken h b ∙ sym (M.broken h b)) (same_or k 0)

  pub one-table-answer : (r s : Body) → TableAnswer n bs r → TableAnswer n bs s → r ≡ s
  one-table-answer r s R S = by (body_fault n bs) refl
    where
      by : (f : Bool) → body_fault n bs ≡ f → r ≡ s
      by true h = R.fault h ∙ sym (S.fault h)
      by false h =
          ⊎_elim (λ z. R.sound h (R.normal z) ∙ sym (S.sound h (R.normal z)))
          (λ ne. let b : Normal (table_of n bs) → ⊥ = λ t. ne (ap (λ (x : Body). said_number x.said) (R.sound h t)) in R.broken h b ∙ sym (S.broken h b))
          (same_or (said_number r.said) 0)

  -- ---- a circuit's body
  pub one-circuit-answer : (ed : ℕ) (r s : Body) → CircuitAnswer ed n bs r → CircuitAnswer ed n bs s → r ≡ s
  one-circuit-answer ed r s R S = ⊎_elim given (λ ne. R.refused ne ∙ sym (S.refused ne)) (same_or (circuit_body_number ed n bs) 0)
    where
      given : circuit_body_number ed n bs ≡ 0 → r ≡ s
      given z =
          let e = one-amplitude ed n (input_of bs) (output_of bs) (gates_of bs) (Ok (said_amount r.said)) (Ok (said_amount s.said)) (R.value z) (S.value z) in
          R.given z ∙ ap circuit_body (ap amount_of e) ∙ sym (S.given z)

  -- ---- a record's body
  pub one-record-answer : (r s : Body) → RecordAnswer n bs r → RecordAnswer n bs s → r ≡ s
  one-record-answer r s R S = ⊎_elim given (λ ne. R.refused ne ∙ sym (S.refused ne)) (same_or (record_body_number n bs) 0)
    where
      given : record_body_number n bs ≡ 0 → r ≡ s
      given z =
          let e = one-chance n (input_of bs) (record_gates bs) (Ok (said_chance r.said)) (Ok (said_chance s.said)) (R.value z) (S.value z) in
          R.given z ∙ ap record_body (ap chance_of e) ∙ sym (S.given z)

-- ---- a body by its kind
pub one-own-number : (e kind n : ℕ) (bs : List ℕ) (k m : ℕ) → good_kind e kind ≡ true → OwnNumber e kind n bs k → OwnNumber e kind n bs m → k ≡ m
one-own-number e kind n bs k m g K M =
    ⊎_elim (λ c. K.circuit c ∙ sym (M.circuit c))
    (λ o. ⊎_elim (λ c. one-table-number n bs k m (K.table c) (M.table c)) (λ c. K.recorded c.1 ∙ sym (M.recorded c.1)) o) (kind-cases e kind g)

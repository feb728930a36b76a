-- What a record's body answers on each way through the code: too short, or what the chance of its record answers.
use mathlib.Core.List.{List}
use mathlib.Core.Path.{◌≡◌, refl, sym, ap, ap₂, ◌∙◌, subst}
use Prim.Native.Nat.{ℕ, ◌-◌, ◌≤◌, ◌<◌}
use native.Mathlib.Omega.{arith}
use lib.Dec.{ltb}
use lib.ListN.{length, take, drop}
use borrow.Author.Tests.{lt-ltb, le-ltb}
use Rattle.std.specs.Prelude.{Result, Ok, Err}
use Rattle.exact.specs.declared.Chance.{Chance}
use Rattle.exact.specs.declared.Refusal.{Refusal}
use Rattle.fields.proofs.Laws.Front.{lent-part}
use Rattle.gates.specs.Record.{record_number}
use Rattle.gates.proofs.Laws.Small.{either_number, record-small}
use Rattle.state.specs.Entry.{fresh_table}
use Rattle.state.specs.declared.State.{State}
use Rattle.record.specs.Chanced.{Chanced}
use Rattle.book_bodies.specs.Number.{input_of, record_gates, record_body_number}
use Rattle.book_bodies.specs.Answer.{Said, Body, body, refusal, RecordAnswer}
use Rattle.book_bodies.specs.Inner.Said.{said_told}

module _ (n : ℕ) (bs : List ℕ) where
  pub short-record : length bs < 4 → record_body_number n bs ≡ 11
  unfolding record_body_number
  short-record h = rw (lt-ltb (length bs) 4 h)

  long-record : 4 ≤ length bs → record_body_number n bs ≡ record_number n (input_of bs) (record_gates bs)
  unfolding record_body_number
  long-record h = rw (le-ltb (length bs) 4 h)

  pub record-body-small : record_body_number n bs ≤ 16
  unfolding record_body_number
  record-body-small = either_number (ltb (length bs) 4) _ _ (omega arith) (record-small n (input_of bs) (record_gates bs))

  pub record-short : (r : Body) → length bs < 4 → r ≡ refusal 11 → RecordAnswer n bs r
  record-short r h e = record {
    refused = λ ne. e ∙ ap refusal (sym (short-record h));
    given = λ z. absurd (omega (arith, z, short-record h));
    value = λ z. absurd (omega (arith, z, short-record h));
  }

  module _ (h : 4 ≤ length bs) where
    of-told : (a : Result Chance Refusal) → Chanced n (input_of bs) (record_gates bs) a → RecordAnswer n bs (body (said_told a) fresh_table)
    of-told (Err k) A = record {
      refused = λ ne. ap refusal (A.number ∙ sym (long-record h));
      given = λ z. absurd (none z);
      value = λ z. absurd (none z);
    }
      where
        none : record_body_number n bs ≡ 0 → ⊥
        none z = A.value (sym (long-record h) ∙ z)
    of-told (Ok c) A = record {
      refused = λ ne. absurd (ne (long-record h ∙ sym A.number));
      given = λ z. refl;
      value = λ z. A;
    }

    -- the record that the code was handed: a number read, and the part behind it
    pub record-law : (a : Result Chance Refusal) (s : Said) (t : State) (i : ℕ) → Chanced n i (take (length bs - 4) (drop 4 bs)) a → i ≡ input_of bs → s ≡ said_told a → t ≡ fresh_table → RecordAnswer n bs (body s t)
    record-law a s t i A p e f =
        let B = subst (λ (v : ℕ). Chanced n v (take (length bs - 4) (drop 4 bs)) a) p A in
        let C = subst (λ (l : List ℕ). Chanced n (input_of bs) l a) (lent-part bs 4) B in
        subst (RecordAnswer n bs) (sym (ap₂ body e f)) (of-told a C)

  -- the number of the record that the code was handed
  pub record-number-law : 4 ≤ length bs → (k i : ℕ) → k ≡ record_number n i (take (length bs - 4) (drop 4 bs)) → i ≡ input_of bs → k ≡ record_body_number n bs
  record-number-law h k i e p =
      e
      ∙ ap (λ (v : ℕ). record_number n v (take (length bs - 4) (drop 4 bs))) p
      ∙ ap (record_number n (input_of bs)) (lent-part bs 4)
      ∙ sym (long-record h)

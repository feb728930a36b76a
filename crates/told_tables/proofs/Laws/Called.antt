-- A call on a table in lent bytes: one that promises more, and no second result.
use mathlib.Core.List.{List}
use mathlib.Core.Logic.{◌≢◌, ⊎_elim}
use mathlib.Core.Path.{◌≡◌, refl, sym, ap, subst, ◌∙◌}
use Prim.Native.Nat.{ℕ}
use lib.ListN.{length}
use Rattle.exact.specs.Refusal.{accepted}
use Rattle.bits.proofs.Laws.Bit.{same_or}
use Rattle.table.specs.declared.Table.{Table}
use Rattle.image.specs.Image.{image_size}
use Rattle.image_read.specs.declared.Reading.{Reading}
use Rattle.image_read.specs.Read.{Reads}
use Rattle.image_read.proofs.Laws.Read.{size_of}
use Rattle.image_read.proofs.Laws.Only.{one-reading}
use Rattle.told_tables.specs.Called.{bytes_of, held, Answered, Called}
use Rattle.told_tables.specs.Inner.Back.{PutBack}

-- a call that promises more promises this too
pub called-as : {A O : Type 0} (bs : List ℕ) (P Q : Table → A → Type 0) (number : A → ℕ) (after : A → O) (o : O) (n : ℕ) (p : O) → ((t : Table) (a : A) → P t a → Q t a)
    → Called bs P number after o n p → Called bs Q number after o n p
called-as bs P Q number after o n p f C = record {
  reading = C.reading;
  reads = C.reads;
  refused = C.refused;
  given = λ z. let a = C.given z in record { answer = a.answer; is = f (held C.reading) a.answer a.is; number_is = a.number_is; kept = a.kept; told = a.told };
}

-- ---- no second result, where P has one answer as far as it is told
module _ {A O : Type 0} (bs : List ℕ) (P : Table → A → Type 0) (number : A → ℕ) (after : A → O) (o : O) (one : (t : Table) (a b : A) → P t a → P t b → a ≡ b) where
  one_answer : (t : Table) (n m : ℕ) (p q : O) → Answered (P t) number after o n p → Answered (P t) number after o m q → (n ≡ m) × (p ≡ q)
  one_answer t n m p q a b = (same, ⊎_elim accept refuse (same_or n 0))
    where
      e : a.answer ≡ b.answer
      e = one t a.answer b.answer a.is b.is

      same : n ≡ m
      same = a.number_is ∙ ap number e ∙ sym b.number_is

      accept : n ≡ 0 → p ≡ q
      accept z = a.told z ∙ ap after e ∙ sym (b.told (sym same ∙ z))

      refuse : n ≢ 0 → p ≡ q
      refuse h = a.kept h ∙ sym (b.kept (λ z. h (same ∙ z)))

  pub one-call : (n m : ℕ) (p q : O) → Called bs P number after o n p → Called bs P number after o m q → (n ≡ m) × (p ≡ q)
  one-call n m p q A B = ⊎_elim given refused (same_or A.reading.refusal 0)
    where
      e : A.reading ≡ B.reading
      e = one-reading bs A.reading B.reading A.reads B.reads

      refusal : A.reading.refusal ≡ B.reading.refusal
      refusal = ap (λ (r : Reading). r.refusal) e

      given : A.reading.refusal ≡ 0 → (n ≡ m) × (p ≡ q)
      given z =
          one_answer (held B.reading) n m p q (subst (λ (r : Reading). Answered (P (held r)) number after o n p) e (A.given z)) (B.given (sym refusal ∙ z))

      refused : A.reading.refusal ≢ 0 → (n ≡ m) × (p ≡ q)
      refused h =
          let a = A.refused h in
          let b = B.refused (λ z. h (refusal ∙ z)) in
          (a.0 ∙ refusal ∙ sym b.0, a.1 ∙ sym b.1)

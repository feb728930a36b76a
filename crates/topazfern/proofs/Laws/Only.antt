-- No second result of any call for C: by the same of the call that it hands on.
use mathlib.Core.List.{List}
use mathlib.Core.Logic.{◌≢◌, ⊎_elim}
use mathlib.Core.Path.{◌≡◌, sym, ap, subst, ◌∙◌}
use Prim.Native.Nat.{ℕ}
use Rattle.std.specs.Prelude.{Result}
use Rattle.exact.specs.declared.Amount.{Amount}
use Rattle.exact.specs.declared.Chance.{Chance}
use Rattle.exact.specs.declared.Refusal.{Refusal}
use Rattle.bits.proofs.Laws.Bit.{same_or}
use Rattle.call_answers.specs.Answers.{EntryAt}
use Rattle.theorem_history.proofs.Laws.Only.{one_entry}
use Rattle.body_read.specs.declared.Reading.{Reading}
use Rattle.body_read.proofs.Laws.Only.{one-reading}
use Rattle.body_write.specs.declared.Written.{Written}
use Rattle.body_write.specs.Write.{BodyWritten}
use Rattle.body_write.proofs.Laws.Only.{one_written}
use Rattle.circuit.proofs.Laws.Only.{one-amplitude}
use Rattle.book_bodies.specs.declared.Body.{Body}
use Rattle.book.proofs.Laws.Only.{one-body, one-strict}
use Rattle.record.proofs.Laws.Only.{one-chance}
use Rattle.told.specs.Told.{numbered, Told, AnswerTold, Odds, ChanceTold, Shown, BodyTold}
use Rattle.told.proofs.Laws.Only.{one-telling, one-chance-told, one-body-told}
use Rattle.told_bodies.specs.Bodies.{AmplitudeTold, EntryTold, WriteTold}
use Rattle.topazfern.specs.Calls.{RecordTold, ReadTold, StrictReadTold}

pub one-amplitude-told : (ed width input output : ℕ) (bs : List ℕ) (t u v : Told) (n m : ℕ) → AmplitudeTold ed width input output bs t n u → AmplitudeTold ed width input output bs t m v → (n ≡ m) × (u ≡ v)
one-amplitude-told ed width input output bs t u v n m A B =
    let e = one-amplitude ed width input output bs A.answer B.answer A.is B.is in
    one-telling (numbered B.answer) t u v n m (subst (λ (a : Result Amount Refusal). AnswerTold (numbered a) t n u) e A.tells) B.tells

pub one-record-told : (width input : ℕ) (bs : List ℕ) (t u v : Odds) (n m : ℕ) → RecordTold width input bs t n u → RecordTold width input bs t m v → (n ≡ m) × (u ≡ v)
one-record-told width input bs t u v n m A B =
    let e = one-chance width input bs A.answer B.answer A.is B.is in
    one-chance-told (numbered B.answer) t u v n m (subst (λ (a : Result Chance Refusal). ChanceTold (numbered a) t n u) e A.tells) B.tells

pub one-entry-told : (width : ℕ) (bs : List ℕ) (x : ℕ) (t u v : Told) (n m : ℕ) → EntryTold width bs x t n u → EntryTold width bs x t m v → (n ≡ m) × (u ≡ v)
one-entry-told width bs x t u v n m A B = ⊎_elim given refused (same_or A.reading.refusal 0)
  where
    e : A.reading ≡ B.reading
    e = one-reading width bs A.reading B.reading A.reads B.reads

    number : A.reading.refusal ≡ B.reading.refusal
    number = ap (λ (r : Reading). r.refusal) e

    given : A.reading.refusal ≡ 0 → (n ≡ m) × (u ≡ v)
    given z =
        let a = A.given z in
        let b = B.given (sym number ∙ z) in
        let i = subst (λ (r : Reading). EntryAt r.table x a.answer) e a.is in
        let s = one_entry B.reading.table x a.answer b.answer i b.is in
        one-telling (numbered b.answer) t u v n m (subst (λ (c : Result Amount Refusal). AnswerTold (numbered c) t n u) s a.tells) b.tells

    refused : A.reading.refusal ≢ 0 → (n ≡ m) × (u ≡ v)
    refused ne =
        let a = A.refused ne in
        let b = B.refused (λ z. ne (number ∙ z)) in
        (a.0 ∙ number ∙ sym b.0, a.1 ∙ sym b.1)

pub one-write : (width : ℕ) (bs xs : List ℕ) (start n m p q : ℕ) (ys zs : List ℕ) → WriteTold width bs xs start n p ys → WriteTold width bs xs start m q zs → (n ≡ m) × (p ≡ q) × (ys ≡ zs)
one-write width bs xs start n m p q ys zs A B = ⊎_elim given refused (same_or A.reading.refusal 0)
  where
    e : A.reading ≡ B.reading
    e = one-reading width bs A.reading B.reading A.reads B.reads

    number : A.reading.refusal ≡ B.reading.refusal
    number = ap (λ (r : Reading). r.refusal) e

    given : A.reading.refusal ≡ 0 → (n ≡ m) × (p ≡ q) × (ys ≡ zs)
    given z =
        let a = subst (λ (r : Reading). BodyWritten r.table xs start (record { refusal = n; bytes = p }) ys) e (A.written z) in
        let w = one_written B.reading.table xs start (record { refusal = n; bytes = p }) (record { refusal = m; bytes = q }) ys zs a (B.written (sym number ∙ z)) in
        (ap (λ (r : Written). r.refusal) w.0, ap (λ (r : Written). r.bytes) w.0, w.1)

    refused : A.reading.refusal ≢ 0 → (n ≡ m) × (p ≡ q) × (ys ≡ zs)
    refused ne =
        let a = A.refused ne in
        let b = B.refused (λ z. ne (number ∙ z)) in
        (a.0 ∙ number ∙ sym b.0, a.1 ∙ sym b.1, a.2 ∙ sym b.2)

pub one-read : (bs : List ℕ) (j : ℕ) (t u v : Shown) (n m : ℕ) → ReadTold bs j t n u → ReadTold bs j t m v → (n ≡ m) × (u ≡ v)
one-read bs j t u v n m A B =
    let e = one-body bs j A.body B.body A.reads B.reads in
    one-body-told B.body t u v n m (subst (λ (b : Body). BodyTold b t n u) e A.tells) B.tells

pub one-strict-read : (bs : List ℕ) (j : ℕ) (t u v : Shown) (n m : ℕ) → StrictReadTold bs j t n u → StrictReadTold bs j t m v → (n ≡ m) × (u ≡ v)
one-strict-read bs j t u v n m A B =
    let e = one-strict bs j A.body B.body A.reads B.reads in
    one-body-told B.body t u v n m (subst (λ (b : Body). BodyTold b t n u) e A.tells) B.tells

-- No second result: of what reading a table with labels answers, and of the writer's answer and area.
use mathlib.Core.Bool.{Bool, true, false}
use mathlib.Core.List.{List}
use mathlib.Core.Logic.{◌≢◌, ◌⊎◌, inl, inr, ⊎_elim}
use mathlib.Core.Path.{◌≡◌, refl, sym, ◌∙◌, ap, subst}
use Prim.Native.Nat.{ℕ}
use lib.Count.{ones}
use Rattle.exact.specs.Refusal.{accepted}
use Rattle.bits.proofs.Laws.Bit.{same_or}
use Rattle.labels.specs.Labels.{past_last}
use Rattle.body_read.specs.declared.Reading.{Reading as StateReading}
use Rattle.body_read.specs.Read.{Reads}
use Rattle.body_read.proofs.Laws.Only.{one-reading}
use Rattle.body_write.specs.declared.Written.{Written}
use Rattle.book_bodies.specs.declared.Body.{Body as StateBody}
use Rattle.book.specs.Read.{ReadsBody, ReadsStrict}
use Rattle.book.proofs.Laws.Only.{one-body, one-strict}
use Rattle.table.specs.declared.Table.{Table}
use Rattle.table.specs.Normal.{Normal}
use Rattle.book_tables.specs.Read.{Reading, Body, NamesBody, NamesReading, BodyAs, ReadingAs}
use Rattle.book_tables.specs.Write.{TableWritten}

-- one body named has one answer
named-once : (first : ℕ) (b : StateBody) (r s : Body) → NamesBody first b r → NamesBody first b s → r ≡ s
named-once first b r s R S = go (past_last first (ones b.table.live)) refl
  where
    go : (c : Bool) → past_last first (ones b.table.live) ≡ c → r ≡ s
    go true e = R.past e ∙ sym (S.past e)
    go false e = R.given e ∙ sym (S.given e)

one-as : {Is : StateBody → Type 0} → ((a b : StateBody) → Is a → Is b → a ≡ b) → (first : ℕ) (r s : Body) → BodyAs Is first r → BodyAs Is first s → r ≡ s
one-as h first r s R S = named-once first S.body r s (subst (λ (b : StateBody). NamesBody first b r) (h R.body S.body R.read S.read) R.names) S.names

pub one-read : (bs : List ℕ) (j first : ℕ) (r s : Body) → BodyAs (ReadsBody bs j) first r → BodyAs (ReadsBody bs j) first s → r ≡ s
one-read bs j first r s R S = one-as (one-body bs j) first r s R S

pub one-read-strict : (bs : List ℕ) (j first : ℕ) (r s : Body) → BodyAs (ReadsStrict bs j) first r → BodyAs (ReadsStrict bs j) first s → r ≡ s
one-read-strict bs j first r s R S = one-as (one-strict bs j) first r s R S

pub one-read-bytes : (n : ℕ) (bs : List ℕ) (first : ℕ) (r s : Reading) → ReadingAs (Reads n bs) first r → ReadingAs (Reads n bs) first s → r ≡ s
one-read-bytes n bs first r s R S =
    go (subst (λ (b : StateReading). NamesReading first b r) (one-reading n bs R.body S.body R.read S.read) R.names) (past_last first (ones S.body.table.live)) refl
  where
    go : NamesReading first S.body r → (c : Bool) → past_last first (ones S.body.table.live) ≡ c → r ≡ s
    go N true e = N.past e ∙ sym (S.names.past e)
    go N false e = N.given e ∙ sym (S.names.given e)

pub one-table-written : (t : Table) (xs : List ℕ) (start : ℕ) (r s : Written) (ys zs : List ℕ) → TableWritten t xs start r ys → TableWritten t xs start s zs → (r ≡ s) × (ys ≡ zs)
one-table-written t xs start r s ys zs R S = go (same_or r.refusal accepted)
  where
    number : r.refusal ≡ s.refusal
    number =
        ⊎_elim (λ (e : r.refusal ≡ s.refusal). e)
        (λ (ne : r.refusal ≢ s.refusal).
        let never : Normal t → ⊥ = λ N. ne (R.sound N ∙ sym (S.sound N)) in
        absurd (ne (R.broken never ∙ sym (S.broken never))))
        (same_or r.refusal s.refusal)

    both : r.bytes ≡ s.bytes → r ≡ s
    both e = λ i. record { refusal = number i; bytes = e i }

    go : (r.refusal ≡ accepted) ⊎ (r.refusal ≢ accepted) → (r ≡ s) × (ys ≡ zs)
    go (inl e) =
        let f : s.refusal ≡ accepted = sym number ∙ e in
        (both (R.count e ∙ sym (S.count f)), R.written e ∙ sym (S.written f))
    go (inr ne) =
        let nf : s.refusal ≢ accepted = λ f. ne (number ∙ f) in
        (both (R.nothing ne ∙ sym (S.nothing nf)), R.kept ne ∙ sym (S.kept nf))

-- A table written and read back, labels included: "A written body carries no labels", so it comes back with those that the reader gives, in the order of its slots.
use mathlib.Core.Bool.{Bool, true, false}
use mathlib.Core.List.{List}
use mathlib.Core.Path.{◌≡◌, refl, sym, ◌∙◌, ap, subst}
use Prim.Native.Nat.{ℕ, ◌+◌, ◌≤◌, ◌<◌}
use native.Mathlib.Omega.{arith}
use lib.Count.{ones}
use lib.ListN.{length, get_or}
use borrow.Author.Tests.{le-ltb}
use Rattle.exact.specs.Refusal.{accepted}
use Rattle.fields.specs.Bytes.{byte_at}
use Rattle.labels.specs.Labels.{past_last}
use Rattle.state.specs.declared.State.{State}
use Rattle.state.specs.Normal.{Normal as NormalState}
use Rattle.body_pack.specs.Packed.{packed_table}
use Rattle.body_bytes.specs.Body.{body_fault}
use Rattle.body_bytes.proofs.Laws.Fine.{fine}
use Rattle.body_read.specs.declared.Reading.{Reading as StateReading}
use Rattle.body_read.specs.Read.{Reads}
use Rattle.body_read.specs.Table.{table_of}
use Rattle.body_read.proofs.Laws.Table.{live-is}
use Rattle.body_write.specs.declared.Written.{Written}
use Rattle.body_write.specs.Body.{body_bytes}
use Rattle.body_write.specs.Write.{BodyWritten}
use Rattle.body_write.proofs.Laws.First.{ones-first}
use Rattle.book_bodies.specs.declared.Body.{Body as StateBody}
use Rattle.book_bodies.specs.declared.Said.TheVariants.{Whole}
use Rattle.book.specs.Read.{ReadsBody}
use Rattle.theorem_round_trip.specs.Book.{Holds}
use Rattle.theorem_round_trip.specs.Same.{WrittenAgain}
use Rattle.theorem_round_trip.proofs.Laws.Back.{read_back}
use Rattle.theorem_round_trip.proofs.Laws.Kept.{kept}
use Rattle.theorem_round_trip.proofs.Laws.Same.{same-written}
use Rattle.book_tables.specs.declared.Reading.{Reading}
use Rattle.book_tables.specs.declared.Body.{Body}
use Rattle.book_tables.specs.Read.{named, NamesReading, ReadingAs, BodyAs}
use Rattle.book_tables.specs.Write.{TableWritten}
use Rattle.book_tables.proofs.Laws.Names.{named-normal}
use Rattle.table.specs.declared.Table.{Table}
use Rattle.table.specs.Normal.{Normal}

-- how many slots the packed table has
packed-ones : (s : State) → ones (packed_table s).live ≡ ones s.live
unfolding packed_table
packed-ones s = ones-first (ones s.live)

module _ (t : Table) (N : Normal t) (first : ℕ) (room : first + ones t.state.live ≤ 65536) where
  inside : past_last first (ones (packed_table t.state).live) ≡ false
  inside = le-ltb 65536 (first + ones (packed_table t.state).live) (omega (arith, packed-ones t.state))

  -- a written table reads back, slot i labelled first plus i
  pub read-back-labels : (r : Reading) → ReadingAs (Reads (ones t.state.live) (body_bytes t.state)) first r → r ≡ record { refusal = accepted; table = named first (packed_table t.state) }
  read-back-labels r A = (subst (λ (b : StateReading). NamesReading first b r) (read_back t.state N.state A.body A.read) A.names).given inside

  -- and so it does from a book
  module _ (ed : ℕ) (ks ws ls : List ℕ) (bodies : ℕ → List ℕ) (bs : List ℕ) (H : Holds ed ks ws ls bodies bs) (j : ℕ) (h : j < length ks) (kind : get_or ks j 0 ≡ 2) (width : get_or ws j 0 ≡ ones t.state.live)
      (body : bodies j ≡ body_bytes t.state) where
    pub kept-labels : (r : Body) → BodyAs (ReadsBody bs j) first r → r ≡ record { said = Whole; table = named first (packed_table t.state) }
    kept-labels r A =
        let e = kept t.state N.state ed ks ws ls bodies bs H j h kind width body A.body A.read in
        A.names.given (ap (λ (b : StateBody). past_last first (ones b.table.live)) e ∙ inside) ∙ ap (λ (b : StateBody). body_of b) e
      where
        body_of : StateBody → Body
        body_of b = record { said = b.said; table = named first b.table }

-- whatever reading a body answers without a refusal, writing its table leaves what writing the body's own bytes would
pub same-written-labels : (n : ℕ) (bs : List ℕ) → ((i : ℕ) → byte_at bs i < 256) → (first : ℕ) (r : Reading) → ReadingAs (Reads n bs) first r → r.refusal ≡ accepted
    → (xs : List ℕ) (start : ℕ) (w : Written) (ys : List ℕ) → TableWritten r.table xs start w ys → WrittenAgain bs xs start w ys
same-written-labels n bs small first r A z xs start w ys W = go (past_last first (ones A.body.table.live)) refl
  where
    go : (b : Bool) → past_last first (ones A.body.table.live) ≡ b → WrittenAgain bs xs start w ys
    go true p = absurd (let q : r.refusal ≡ 3 = ap (λ (s : Reading). s.refusal) (A.names.past p) in omega (arith, z, q))
    go false p = same-written n bs small A.body A.read own xs start w ys written
      where
        given : r ≡ record { refusal = A.body.refusal; table = named first A.body.table }
        given = A.names.given p

        own : A.body.refusal ≡ accepted
        own = sym (ap (λ (s : Reading). s.refusal) given) ∙ z

        tested : body_fault n bs ≡ false
        tested = unfaulted (body_fault n bs) refl
          where
            unfaulted : (f : Bool) → body_fault n bs ≡ f → f ≡ false
            unfaulted true h = absurd (let q : A.body.refusal ≡ 11 = ap (λ (s : StateReading). s.refusal) (A.read.fault h) in omega (arith, own, q))
            unfaulted false h = refl

        state : A.body.table ≡ table_of n bs
        state = ap (λ (s : StateReading). s.table) (A.read.sound tested (A.read.normal own))

        N : Normal (named first A.body.table)
        N = named-normal first n A.body.table (subst NormalState (sym state) (A.read.normal own)) (ap (λ (s : State). s.live) state ∙ live-is n bs) (fine n bs tested).narrow p

        X : TableWritten (named first A.body.table) xs start w ys
        X = subst (λ (t : Table). TableWritten t xs start w ys) (ap (λ (s : Reading). s.table) given) W

        written : BodyWritten A.body.table xs start w ys
        written = record { broken = λ h. absurd (h N.state); sound = λ M. X.sound N; nothing = X.nothing; kept = X.kept; count = X.count; written = X.written }

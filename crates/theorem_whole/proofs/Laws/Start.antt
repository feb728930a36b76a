-- A table that reading a body answers starts a history: it is normal, labels too, and its entries are those that its bytes state.
use mathlib.Core.Bool.{Bool, true, false}
use mathlib.Core.List.{List}
use mathlib.Core.Logic.{◌≢◌, ⊎_elim}
use mathlib.Core.Path.{◌≡◌, refl, sym, ◌∙◌, ap, subst}
use Prim.Native.Nat.{ℕ, ◌<◌}
use native.Mathlib.Omega.{arith}
use lib.Count.{ones}
use Rattle.exact.specs.Refusal.{accepted}
use Rattle.bits.proofs.Laws.Bit.{same_or}
use Rattle.labels.specs.Labels.{past_last}
use Rattle.state.specs.declared.State.{State}
use Rattle.state.specs.Entry.{entry}
use Rattle.state.specs.Normal.{Normal}
use Rattle.contents.specs.Contents.{count_of, kind_of, width_of, contents_number}
use Rattle.body_bytes.specs.Body.{body_fault}
use Rattle.body_bytes.proofs.Laws.Fine.{fine}
use Rattle.body_read.specs.declared.Reading.{Reading as StateReading}
use Rattle.body_read.specs.Table.{table_of}
use Rattle.body_read.specs.Read.{Reads}
use Rattle.body_read.proofs.Laws.Table.{live-is}
use Rattle.book_bodies.specs.declared.Body.{Body as StateBody}
use Rattle.book.specs.Book.{bytes_of}
use Rattle.book.specs.Read.{ReadsBody}
use Rattle.book_bodies.specs.Answer.{said_number, TableAnswer}
use Rattle.book_tables.specs.declared.Reading.{Reading}
use Rattle.book_tables.specs.declared.Body.{Body}
use Rattle.book_tables.specs.Read.{named, ReadingAs, BodyAs}
use Rattle.book_tables.proofs.Laws.Names.{named-normal}
use Rattle.table.specs.declared.Table.{Table}
use Rattle.theorem_history.specs.Meaning.{own_meaning}
use Rattle.theorem_history.specs.History.{Reached, from-table}
use Rattle.theorem_whole.specs.Text.{entry_of}
use Rattle.theorem_whole.proofs.Laws.Refusal.{unfaulted}
use Rattle.theorem_whole.proofs.Laws.Entry.{bytes-to-entry}

-- t starts a history, with the entries that a body's bytes state
abbrev pub Starts : ℕ → List ℕ → Table → Type 0
Starts n bs t = Reached t (own_meaning t) × ((x : ℕ → ℕ) → entry t.state x ≡ entry_of n bs x)

starts : (n first : ℕ) (bs : List ℕ) (s : State) (t : Table) → body_fault n bs ≡ false → Normal (table_of n bs) → s ≡ table_of n bs → past_last first (ones s.live) ≡ false → t ≡ named first s → Starts n bs t
starts n first bs s t h N e p q =
    subst (Starts n bs) (sym q)
    (from-table (named first s) (named-normal first n s (subst Normal (sym e) N) (ap (λ (w : State). w.live) e ∙ live-is n bs) (fine n bs h).narrow p), λ x. ap (λ (w : State). entry w x) e ∙ bytes-to-entry n bs h x)

-- what `book_tables::read_bytes` answers without a refusal
pub reading-starts : (n : ℕ) (bs : List ℕ) (first : ℕ) (r : Reading) → ReadingAs (Reads n bs) first r → r.refusal ≡ accepted → Starts n bs r.table
reading-starts n bs first r A e = go (past_last first (ones A.body.table.live)) refl
  where
    go : (b : Bool) → past_last first (ones A.body.table.live) ≡ b → Starts n bs r.table
    go true p = absurd (let q : r.refusal ≡ 3 = ap (λ (s : Reading). s.refusal) (A.names.past p) in omega (arith, e, q))
    go false p = starts n first bs A.body.table r.table tested (A.read.normal own) (ap (λ (s : StateReading). s.table) (A.read.sound tested (A.read.normal own))) p (ap (λ (s : Reading). s.table) given)
      where
        given : r ≡ record { refusal = A.body.refusal; table = named first A.body.table }
        given = A.names.given p

        own : A.body.refusal ≡ accepted
        own = sym (ap (λ (s : Reading). s.refusal) given) ∙ e

        tested : body_fault n bs ≡ false
        tested = unfaulted (body_fault n bs) A.body.refusal own (λ h. ap (λ (s : StateReading). s.refusal) (A.read.fault h))

-- what `book_tables::read` answers of a table without a refusal
pub book-starts : (bs : List ℕ) (j first : ℕ) (r : Body) → BodyAs (ReadsBody bs j) first r → j < count_of bs → kind_of bs j ≡ 2 → said_number r.said ≡ accepted
    → Starts (width_of bs j) (bytes_of bs j) r.table
book-starts bs j first r R l k e = go (past_last first (ones R.body.table.live)) refl
  where
    go : (b : Bool) → past_last first (ones R.body.table.live) ≡ b → Starts (width_of bs j) (bytes_of bs j) r.table
    go true p = absurd (let q : said_number r.said ≡ 3 = ap (λ (s : Body). said_number s.said) (R.names.past p) in omega (arith, e, q))
    go false p =
        starts (width_of bs j) first (bytes_of bs j) R.body.table r.table clear (A.normal own) (ap (λ (s : StateBody). s.table) (A.sound clear (A.normal own))) p (ap (λ (s : Body). s.table) given)
      where
        given : r ≡ record { said = R.body.said; table = named first R.body.table }
        given = R.names.given p

        own : said_number R.body.said ≡ accepted
        own = sym (ap (λ (s : Body). said_number s.said) given) ∙ e

        tested : contents_number bs ≡ accepted
        tested =
            ⊎_elim (λ (z : contents_number bs ≡ accepted). z)
            (λ (ne : contents_number bs ≢ accepted). absurd (ne (sym (ap (λ (s : StateBody). said_number s.said) (R.read.refused ne)) ∙ own))) (same_or (contents_number bs) accepted)

        A : TableAnswer (width_of bs j) (bytes_of bs j) R.body
        A = (R.read.answer tested l).table k

        clear : body_fault (width_of bs j) (bytes_of bs j) ≡ false
        clear = unfaulted (body_fault (width_of bs j) (bytes_of bs j)) (said_number R.body.said) own (λ h. ap (λ (s : StateBody). said_number s.said) (A.fault h))

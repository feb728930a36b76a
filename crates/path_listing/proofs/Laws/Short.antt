-- A listing of paths is short: 8 bytes for the first line and 55 for each of at most 16 tables. By the ranges that the two engines promise of a normal table, and the lengths of lines.
use mathlib.Core.Bool.{Bool, true, false, cond}
use mathlib.Core.List.{List, ◌++◌}
use mathlib.Core.Logic.{◌≢◌, ⊎_elim}
use mathlib.Core.Path.{◌≡◌, refl, sym, ap, subst, ◌∙◌}
use Prim.Native.Nat.{ℕ, zero, suc, ◌*◌, ◌≤◌, ◌<◌}
use native.Mathlib.Omega.{arith}
use borrow.Author.Tests.{lt-ltb}
use lib.Count.{ones}
use lib.Dec.{ltb}
use lib.IntN.{ℤ, pos, negsuc, nat_abs}
use lib.ListN.{length, length-append}
use Rattle.exact.specs.Value.{Value, nil}
use Rattle.exact.specs.declared.Answer.{Answer}
use Rattle.exact.specs.declared.Answer.TheVariants as answer
use Rattle.exact.specs.Amount.{none, some}
use Rattle.exact.specs.Inner.Answer.{amount_of}
use Rattle.exact.proofs.Laws.Sum.{split}
use Rattle.bits.proofs.Laws.Bit.{same_or}
use Rattle.ties.specs.Ties.{held}
use Rattle.state.specs.declared.State.{State}
use Rattle.state.specs.Entry.{entry, ties, turns_at, fresh_table}
use Rattle.state.specs.Normal as normal
use Rattle.state.specs.Normal.{Normal}
use Rattle.state.proofs.Laws.Blank.{fresh-normal}
use Rattle.state.proofs.Laws.Called.{first-yes}
use Rattle.contents.specs.Contents.{edition_of, count_of, width_of, entry_of, contents_number}
use Rattle.contents.proofs.Laws.Good.{good}
use Rattle.lines.specs.Lines.{book_line, refused_line}
use Rattle.lines.proofs.Laws.Lengths.{InRange, book-length, refused-length}
use Rattle.book_bodies.specs.declared.Said.{Said}
use Rattle.book_bodies.specs.declared.Said.TheVariants.{Refused, Circuit, Record, Whole}
use Rattle.book_bodies.specs.declared.Body.{Body}
use Rattle.book_bodies.specs.Number.{circuit_body_number, record_body_number}
use Rattle.book_bodies.specs.Answer.{said_number, CircuitAnswer, RecordAnswer, TableAnswer}
use Rattle.body_bytes.specs.Body.{body_fault}
use Rattle.body_read.specs.Table.{table_of}
use Rattle.book.specs.Book.{bytes_of}
use Rattle.book.specs.Read.{ReadsBody}
use Rattle.path_sum.specs.declared.PathSum.{PathSum}
use Rattle.std.specs.Prelude.{Result, Ok, Err}
use Rattle.exact.specs.declared.Refusal.{Refusal}
use Rattle.path_sum.specs.Paths.{paths_of, four, value_of, bits_number, PathsAdded}
use Rattle.path_sum.proofs.Laws.Small.{Within, paths-small}
use Rattle.path_away.specs.Away.{SummedAway}
use Rattle.path_away.proofs.Laws.Away.{on-the-way, away-number}
use Rattle.path_lines.proofs.Laws.Lengths.{PathsShort, SummedShort, path-length}
use Rattle.path_listing.specs.Listing.{Halves, Answers, numbered, body_text, table_lines}

power-range : (s : ℤ) → normal.InRange s → nat_abs s ≤ 2000
power-range (pos n) h = h
power-range (negsuc n) h = omega (arith, h)

-- ---- what a body answers beside what it says is a normal table
normal-of : (b : Body) (t : State) → b.table ≡ t → Normal t → Normal b.table
normal-of b t e N = subst Normal (sym e) N

circuit-normal : (ed n : ℕ) (bs : List ℕ) (b : Body) → CircuitAnswer ed n bs b → Normal b.table
circuit-normal ed n bs b A =
    ⊎_elim (λ (z : circuit_body_number ed n bs ≡ 0). normal-of b fresh_table (ap (λ (c : Body). c.table) (A.given z)) fresh-normal)
    (λ (ne : circuit_body_number ed n bs ≢ 0). normal-of b fresh_table (ap (λ (c : Body). c.table) (A.refused ne)) fresh-normal)
    (same_or (circuit_body_number ed n bs) 0)

record-normal : (n : ℕ) (bs : List ℕ) (b : Body) → RecordAnswer n bs b → Normal b.table
record-normal n bs b A =
    ⊎_elim (λ (z : record_body_number n bs ≡ 0). normal-of b fresh_table (ap (λ (c : Body). c.table) (A.given z)) fresh-normal)
    (λ (ne : record_body_number n bs ≢ 0). normal-of b fresh_table (ap (λ (c : Body). c.table) (A.refused ne)) fresh-normal)
    (same_or (record_body_number n bs) 0)

table-normal : (n : ℕ) (bs : List ℕ) (b : Body) → TableAnswer n bs b → Normal b.table
table-normal n bs b A = by (body_fault n bs) refl
  where
    by : (f : Bool) → body_fault n bs ≡ f → Normal b.table
    by true e = normal-of b fresh_table (ap (λ (c : Body). c.table) (A.fault e)) fresh-normal
    by false e =
        ⊎_elim (λ (z : said_number b.said ≡ 0). normal-of b (table_of n bs) (ap (λ (c : Body). c.table) (A.sound e (A.normal z))) (A.normal z))
        (λ (ne : said_number b.said ≢ 0).
        normal-of b fresh_table (ap (λ (c : Body). c.table) (A.broken e (λ t. ne (ap (λ (c : Body). said_number c.said) (A.sound e t))))) fresh-normal)
        (same_or (said_number b.said) 0)

-- ---- the halves of a normal table
-- the numbers of an answer that is not refused
numbers_in : Result PathSum Refusal → Value
numbers_in (Err k) = nil
numbers_in (Ok s) = value_of s.four

power_in : Result PathSum Refusal → ℤ
power_in (Err k) = pos 0
power_in (Ok s) = s.power.0

entry-range : (t : State) → Normal t → (x : ℕ → ℕ) → InRange (entry t x)
unfolding entry turns_at
entry-range t N x = go t.zero (held t.ties (ties t) x)
  where
    go : (z h : Bool) → InRange (cond z none (cond h (some t.power.0 (turns_at t x)) none))
    go true h = tt
    go false true = (power-range t.power.0 N.power-range, omega arith)
    go false false = tt

module _ (t : State) (N : Normal t) where
  summed-short : (a : Answer) → SummedAway t a → SummedShort a
  summed-short (answer.Refused n) A = omega (arith, away-number t N (answer.Refused n) A)
  summed-short (answer.Is a) A =
      let L = A.done refl in
      subst InRange (sym (ap amount_of L.is)) (entry-range L.state (on-the-way t N L.away) (λ v. 0))

  number_small : bits_number t ≤ 15
  number_small = go (ltb 20 (ones t.live))
    where
      go : (b : Bool) → cond b 15 0 ≤ 15
      go true = omega arith
      go false = omega arith

  narrow : bits_number t ≡ 0 → ones t.live ≤ 20
  narrow z =
      ⊎_elim (λ (l : 20 < ones t.live). let q : bits_number t ≡ 15 = first-yes _ _ _ (lt-ltb 20 (ones t.live) l) in absurd (omega (arith, z, q))) (λ (l : ones t.live ≤ 20). l) (split 20 (ones t.live))

  paths-short : (r : Result PathSum Refusal) → PathsAdded t r → PathsShort (numbered r)
  unfolding numbers_in power_in
  paths-short (Err n) A = omega (arith, A.sound N, number_small)
  paths-short (Ok s) A =
      let l = narrow (sym (A.sound N)) in
      let e = A.done refl in
      (subst (Within 1048576) (sym (ap numbers_in e)) (paths-small t N l), subst (λ (z : ℤ). nat_abs z ≤ 2000) (sym (ap power_in e)) (power-range t.power.0 N.power-range))

-- ---- the line of a body
text-short : (j : ℕ) (s : Said) (h : Halves) → j < 16 → (s ≡ Whole → PathsShort (numbered h.paths) × SummedShort h.summed) → length (body_text j s h) ≤ 55
unfolding body_text
text-short j (Refused k) h l w = omega arith
text-short j (Circuit a) h l w = omega arith
text-short j (Record c) h l w = omega arith
text-short j Whole h l w = path-length j (numbered h.paths) h.summed (omega (arith, l)) (w refl).0 (w refl).1

-- ---- the listing
module _ (bs : List ℕ) (z : contents_number bs ≡ 0) where
  few : count_of bs ≤ 16
  few = (good bs z).count

  read-normal : (j : ℕ) (b : Body) → j < count_of bs → ReadsBody bs j b → Normal b.table
  read-normal j b h R =
      let a = R.answer z h in
      ⊎_elim (λ c. circuit-normal (edition_of bs) (width_of bs j) (bytes_of bs j) b (a.circuit c))
      (λ o. ⊎_elim (λ c. table-normal (width_of bs j) (bytes_of bs j) b (a.table c)) (λ c. record-normal (width_of bs j) (bytes_of bs j) b (a.recorded c.1)) o)
      ((good bs z).body j h (entry_of bs j) refl).kind

  module _ (f : ℕ → Body) (R : (j : ℕ) → j < count_of bs → ReadsBody bs j (f j)) (g : ℕ → Halves) (A : (j : ℕ) → j < count_of bs → (f j).said ≡ Whole → Answers (f j).table (g j)) where
    lines-short : (n : ℕ) → n ≤ count_of bs → length (table_lines n f g) ≤ 55 * n
    unfolding table_lines
    lines-short zero h = omega arith
    lines-short (suc n) h =
        let l : n < count_of bs = omega (arith, h) in
        let N = read-normal n (f n) l (R n l) in
        simp length-append
        (omega (
          arith,
          lines-short n (omega (arith, h)),
          text-short n (f n).said (g n) (omega (arith, few, h)) (λ w. (paths-short (f n).table N (g n).paths (A n l w).paths, summed-short (f n).table N (g n).summed (A n l w).summed)),
        ))

    pub listed-short : length (book_line (count_of bs) ++ table_lines (count_of bs) f g) ≤ 888
    listed-short = simp length-append (omega (arith, few, book-length (count_of bs) (omega (arith, few)), lines-short (count_of bs) (omega arith)))

pub refused-short : (k : ℕ) → k < 256 → length (refused_line k) ≤ 888
refused-short k h = omega (arith, refused-length k (omega (arith, h)))

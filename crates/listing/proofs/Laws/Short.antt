-- A listing is short: 8 bytes for the first line and 19 for each of at most 16 bodies. By the ranges that a reading's promise gives, and the lengths of lines.
use mathlib.Core.Bool.{Bool, true, false, cond}
use mathlib.Core.List.{List, ◌++◌}
use mathlib.Core.Logic.{◌≢◌, ⊎_elim}
use mathlib.Core.Path.{◌≡◌, refl, sym, ap, subst}
use Prim.Native.Nat.{ℕ, zero, suc, ◌*◌, ◌≤◌, ◌<◌}
use native.Mathlib.Omega.{arith}
use lib.Count.{ones, ones-le}
use lib.IntN.{ℤ, pos, negsuc, nat_abs}
use lib.ListN.{length, length-append}
use Rattle.exact.specs.declared.Amount.{Amount}
use Rattle.exact.specs.declared.Amount.TheVariants.{Zero, Some}
use Rattle.exact.specs.Amount.{none, some, Small}
use Rattle.bits.proofs.Laws.Bit.{same_or}
use Rattle.state.specs.declared.State.{State}
use Rattle.state.specs.Entry.{ties}
use Rattle.state.specs.Normal as normal
use Rattle.state.specs.Normal.{Normal}
use Rattle.gates.specs.Near.{Near}
use Rattle.contents.specs.Contents.{edition_of, count_of, width_of, entry_of, contents_number}
use Rattle.contents.proofs.Laws.Good.{good}
use Rattle.body_bytes.specs.Body.{body_fault}
use Rattle.body_read.specs.Table.{table_of}
use Rattle.lines.specs.Lines.{book_line, refused_line}
use Rattle.lines.proofs.Laws.Lengths.{InRange, book-length, circuit-length, table-length, record-length, refused-length, refused-body-length}
use Rattle.book_bodies.specs.declared.Body.{Body}
use Rattle.book.specs.Book.{bytes_of}
use Rattle.book_bodies.specs.Number.{circuit_body_number, record_body_number}
use Rattle.book.specs.Read.{ReadsBody}
use Rattle.book_bodies.specs.Answer.{refusal, table_body, said_number, said_amount, said_chance, CircuitAnswer, RecordAnswer, TableAnswer}
use Rattle.book_bodies.proofs.Laws.Circuit.{circuit-body-small}
use Rattle.book_bodies.proofs.Laws.Record.{record-body-small}
use Rattle.listing_line.specs.Line.{table_amount, body_line}
use Rattle.listing.specs.Listing.{body_lines}

-- ---- amounts
circuit-range : (a : Amount) → Small a → Near a → InRange a
circuit-range Zero s n = tt
circuit-range (Some p c) s n = (omega (arith, n), s)

power-range : (s : ℤ) → normal.InRange s → nat_abs s ≤ 2000
power-range (pos n) h = h
power-range (negsuc n) h = omega (arith, h)

table-range : (t : State) → Normal t → InRange (table_amount t)
table-range t N = go t.zero
  where
    go : (z : Bool) → InRange (cond z none (some t.power.0 t.form.phase.0))
    go true = tt
    go false = (power-range t.power.0 N.power-range, N.proper.phase-range)

-- ---- the line of a body
long : ℕ → Body → ℕ
long j b = length (body_line j b.said b.table)

module _ (j : ℕ) (h : j < 16) where
  refused-body : (k : ℕ) → k ≤ 16 → long j (refusal k) ≤ 19
  unfolding long body_line
  refused-body k l = omega (arith, refused-body-length j k (omega (arith, h)) (omega (arith, l)))

  circuit-short : (ed n : ℕ) (bs : List ℕ) (b : Body) → CircuitAnswer ed n bs b → long j b ≤ 19
  unfolding long body_line
  circuit-short ed n bs b A =
      ⊎_elim
      (λ (z : circuit_body_number ed n bs ≡ 0).
      let a = said_amount b.said in
      subst (λ (c : Body). long j c ≤ 19) (sym (A.given z)) (omega (arith, circuit-length j a (omega arith) (circuit-range a (A.value z).small (A.value z).near))))
      (λ (ne : circuit_body_number ed n bs ≢ 0). subst (λ (c : Body). long j c ≤ 19) (sym (A.refused ne)) (refused-body (circuit_body_number ed n bs) (circuit-body-small ed n bs)))
      (same_or (circuit_body_number ed n bs) 0)

  record-short : (n : ℕ) (bs : List ℕ) (b : Body) → RecordAnswer n bs b → long j b ≤ 19
  unfolding long body_line
  record-short n bs b A =
      ⊎_elim
      (λ (z : record_body_number n bs ≡ 0). subst (λ (c : Body). long j c ≤ 19) (sym (A.given z)) (omega (arith, record-length j (said_chance b.said) (omega arith) (A.value z).few)))
      (λ (ne : record_body_number n bs ≢ 0). subst (λ (c : Body). long j c ≤ 19) (sym (A.refused ne)) (refused-body (record_body_number n bs) (record-body-small n bs)))
      (same_or (record_body_number n bs) 0)

  whole-short : (t : State) → Normal t → long j (table_body t) ≤ 19
  unfolding long body_line
  whole-short t N =
      table-length j (ones t.live) (ties t) (table_amount t) (omega arith) (omega (arith, ones-le 64 t.live N.live-range)) (omega (arith, N.reduced.count-range)) (table-range t N)

  table-short : (n : ℕ) (bs : List ℕ) (b : Body) → TableAnswer n bs b → long j b ≤ 19
  table-short n bs b A = by (body_fault n bs) refl
    where
      same : (c : Body) → b ≡ c → long j c ≤ 19 → long j b ≤ 19
      same c e l = subst (λ (c : Body). long j c ≤ 19) (sym e) l

      by : (f : Bool) → body_fault n bs ≡ f → long j b ≤ 19
      by true e = same (refusal 11) (A.fault e) (refused-body 11 (omega arith))
      by false e =
          ⊎_elim (λ (z : said_number b.said ≡ 0). same (table_body (table_of n bs)) (A.sound e (A.normal z)) (whole-short (table_of n bs) (A.normal z)))
          (λ (ne : said_number b.said ≢ 0). same (refusal 12) (A.broken e (λ t. ne (ap (λ (x : Body). said_number x.said) (A.sound e t)))) (refused-body 12 (omega arith)))
          (same_or (said_number b.said) 0)

-- ---- the listing
module _ (bs : List ℕ) (z : contents_number bs ≡ 0) where
  few : count_of bs ≤ 16
  few = (good bs z).count

  line-short : (j : ℕ) (b : Body) → j < count_of bs → ReadsBody bs j b → long j b ≤ 19
  line-short j b h R =
      let a = R.answer z h in
      ⊎_elim (λ c. circuit-short j (omega (arith, few, h)) (edition_of bs) (width_of bs j) (bytes_of bs j) b (a.circuit c))
      (λ o. ⊎_elim (λ c. table-short j (omega (arith, few, h)) (width_of bs j) (bytes_of bs j) b (a.table c))
      (λ c. record-short j (omega (arith, few, h)) (width_of bs j) (bytes_of bs j) b (a.recorded c.1)) o) ((good bs z).body j h (entry_of bs j) refl).kind

  lines-short : (f : ℕ → Body) → ((j : ℕ) → j < count_of bs → ReadsBody bs j (f j)) → (n : ℕ) → n ≤ count_of bs → length (body_lines n f) ≤ 19 * n
  unfolding body_lines long
  lines-short f R zero h = omega arith
  lines-short f R (suc n) h = simp length-append (omega (arith, lines-short f R n (omega (arith, h)), line-short n (f n) (omega (arith, h)) (R n (omega (arith, h)))))

  pub listed-short : (f : ℕ → Body) → ((j : ℕ) → j < count_of bs → ReadsBody bs j (f j)) → length (book_line (count_of bs) ++ body_lines (count_of bs) f) ≤ 312
  listed-short f R = simp length-append (omega (arith, few, book-length (count_of bs) (omega (arith, few)), lines-short f R (count_of bs) (omega arith)))

pub refused-short : (k : ℕ) → k < 256 → length (refused_line k) ≤ 312
refused-short k h = omega (arith, refused-length k (omega (arith, h)))

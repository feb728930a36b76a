-- A body that was read and says a chance says a power of at most 65,536: by what its promise makes of each kind.
use mathlib.Core.Bool.{Bool, true, false}
use mathlib.Core.List.{List}
use mathlib.Core.Logic.{◌≢◌, ⊎_elim}
use mathlib.Core.Path.{◌≡◌, refl, sym, ap, subst}
use Prim.Native.Nat.{ℕ, ◌≤◌, ◌<◌}
use native.Mathlib.Omega.{arith}
use Rattle.exact.specs.Chance.{power_of}
use Rattle.exact.proofs.Laws.Sum.{split}
use Rattle.bits.proofs.Laws.Bit.{same_or}
use Rattle.contents.specs.Contents.{edition_of, count_of, width_of, entry_of, contents_number}
use Rattle.contents.proofs.Laws.Good.{good}
use Rattle.body_bytes.specs.Body.{body_fault}
use Rattle.book_bodies.specs.declared.Body.{Body}
use Rattle.book_bodies.specs.Number.{circuit_body_number, record_body_number}
use Rattle.book_bodies.specs.Answer.{said_number, said_chance, CircuitAnswer, RecordAnswer, TableAnswer}
use Rattle.book.specs.Book.{bytes_of}
use Rattle.book.specs.Read.{ReadsBody, ReadsStrict}

abbrev Few : Body → Type 0
Few b = power_of (said_chance b.said) ≤ 65536

-- where a body is another that is short of it
same : (b c : Body) → b ≡ c → Few c → Few b
same b c e h = subst Few (sym e) h

circuit-few : (ed n : ℕ) (bs : List ℕ) (b : Body) → CircuitAnswer ed n bs b → Few b
circuit-few ed n bs b A =
    ⊎_elim (λ (z : circuit_body_number ed n bs ≡ 0). same b _ (A.given z) (omega arith))
    (λ (ne : circuit_body_number ed n bs ≢ 0). same b _ (A.refused ne) (omega arith)) (same_or (circuit_body_number ed n bs) 0)

record-few : (n : ℕ) (bs : List ℕ) (b : Body) → RecordAnswer n bs b → Few b
record-few n bs b A =
    ⊎_elim (λ (z : record_body_number n bs ≡ 0). (A.value z).few)
    (λ (ne : record_body_number n bs ≢ 0). same b _ (A.refused ne) (omega arith)) (same_or (record_body_number n bs) 0)

table-few : (n : ℕ) (bs : List ℕ) (b : Body) → TableAnswer n bs b → Few b
table-few n bs b A = by (body_fault n bs) refl
  where
    by : (f : Bool) → body_fault n bs ≡ f → Few b
    by true e = same b _ (A.fault e) (omega arith)
    by false e =
        ⊎_elim (λ (z : said_number b.said ≡ 0). same b _ (A.sound e (A.normal z)) (omega arith))
        (λ (ne : said_number b.said ≢ 0). same b _ (A.broken e (λ t. ne (ap (λ (x : Body). said_number x.said) (A.sound e t)))) (omega arith))
        (same_or (said_number b.said) 0)

pub reads-few : (bs : List ℕ) (j : ℕ) (b : Body) → ReadsBody bs j b → power_of (said_chance b.said) ≤ 65536
reads-few bs j b R =
    ⊎_elim (λ (z : contents_number bs ≡ 0). ⊎_elim (λ (h : j < count_of bs). inside z h) (λ (h : count_of bs ≤ j). same b _ (R.beyond z h) (omega arith)) (split j (count_of bs)))
    (λ (ne : contents_number bs ≢ 0). same b _ (R.refused ne) (omega arith)) (same_or (contents_number bs) 0)
  where
    inside : contents_number bs ≡ 0 → j < count_of bs → Few b
    inside z h =
        let a = R.answer z h in
        ⊎_elim (λ c. circuit-few (edition_of bs) (width_of bs j) (bytes_of bs j) b (a.circuit c))
        (λ o. ⊎_elim (λ c. table-few (width_of bs j) (bytes_of bs j) b (a.table c)) (λ c. record-few (width_of bs j) (bytes_of bs j) b (a.recorded c.1)) o)
        ((good bs z).body j h (entry_of bs j) refl).kind

pub strict-few : (bs : List ℕ) (j : ℕ) (b : Body) → ReadsStrict bs j b → power_of (said_chance b.said) ≤ 65536
strict-few bs j b R =
    ⊎_elim (λ (z : R.number ≡ 0). reads-few bs j b (R.read z)) (λ (ne : R.number ≢ 0). same b _ (R.refused ne) (omega arith)) (same_or R.number 0)

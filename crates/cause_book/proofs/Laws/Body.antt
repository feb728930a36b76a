-- The first fault of a body by its entry, and the room of its part.
use mathlib.Core.List.{List}
use mathlib.Core.Logic.{◌≢◌}
use mathlib.Core.Path.{◌≡◌, ap, ap₂, ◌∙◌, subst}
use Prim.Native.Nat.{ℕ, ◌+◌, ◌-◌, ◌*◌, ◌≤◌}
use native.Mathlib.Omega.{arith}
use lib.ListN.{length, take, drop, length-drop}
use lib.Seq.{length-take-le}
use Rattle.contents.specs.declared.Entry.{Entry}
use Rattle.contents.specs.Contents.{edition_of, kind_of, entry_of}
use Rattle.book.specs.Book.{bytes_of}
use Rattle.cause.specs.Cause.{Finding}
use Rattle.cause_circuit.specs.Circuit.{circuit_found, record_found}
use Rattle.cause_table.specs.Table.{TableFound}
use Rattle.cause_book.specs.Why.{BodyFound}

-- ---- the part of the book that is lent
abbrev pub part : Entry → List ℕ → List ℕ
part e bs = take (e.start + e.length - e.start) (drop e.start bs)

part-law : (bs : List ℕ) (j : ℕ) (e : Entry) → e ≡ entry_of bs j → part e bs ≡ bytes_of bs j
unfolding bytes_of
part-law bs j e is =
    let q : e.start + e.length - e.start ≡ e.length = omega arith in
    ap (λ (k : ℕ). take k (drop e.start bs)) q ∙ ap (λ (x : Entry). take x.length (drop x.start bs)) is

-- it lies within the book
pub part_small : (bs : List ℕ) (e : Entry) → e.start + e.length ≤ length bs → length bs ≤ 60000 → e.start + length (part e bs) ≤ 60000
part_small bs e h l =
    let d : length (drop e.start bs) ≡ length bs - e.start = length-drop e.start bs in
    let m : e.start + e.length - e.start ≤ length (drop e.start bs) = omega (arith, d) in
    let t : length (part e bs) ≡ e.start + e.length - e.start = length-take-le _ (drop e.start bs) m in
    omega (arith, t)

-- ---- a body by its kind
module _ (bs : List ℕ) (j : ℕ) (e : Entry) (f : Finding) (is : e ≡ entry_of bs j) where
  kind : e.kind ≡ kind_of bs j
  kind = ap (λ (x : Entry). x.kind) is

  pub found-circuit : (ed : ℕ) → ed ≡ edition_of bs → e.kind ≡ 1 → f ≡ circuit_found e.start (5 + 8 * j) ed e.width (part e bs) → BodyFound bs j f
  found-circuit ed states one a = record {
    circuit = λ c. a ∙ ap (circuit_found e.start (5 + 8 * j) ed e.width) (part-law bs j e is) ∙ ap₂ (λ (x : Entry) (v : ℕ). circuit_found x.start (5 + 8 * j) v x.width (bytes_of bs j)) is states;
    table = λ c. absurd (let q : e.kind ≡ 2 = kind ∙ c in omega (arith, one, q));
    recorded = λ c. absurd (let q : e.kind ≡ 3 = kind ∙ c in omega (arith, one, q));
  }

  pub found-record : e.kind ≡ 3 → f ≡ record_found e.start (5 + 8 * j) e.width (part e bs) → BodyFound bs j f
  found-record three a = record {
    circuit = λ c. absurd (let q : e.kind ≡ 1 = kind ∙ c in omega (arith, three, q));
    table = λ c. absurd (let q : e.kind ≡ 2 = kind ∙ c in omega (arith, three, q));
    recorded = λ c. a ∙ ap (record_found e.start (5 + 8 * j) e.width) (part-law bs j e is) ∙ ap (λ (x : Entry). record_found x.start (5 + 8 * j) x.width (bytes_of bs j)) is;
  }

  pub found-table : e.kind ≢ 1 → e.kind ≢ 3 → TableFound e.start (5 + 8 * j) e.width (part e bs) f → BodyFound bs j f
  found-table not nor a = record {
    circuit = λ c. absurd (not (kind ∙ c));
    table = λ c. subst (λ (x : Entry). TableFound x.start (5 + 8 * j) x.width (bytes_of bs j) f) is (subst (λ (l : List ℕ). TableFound e.start (5 + 8 * j) e.width l f) (part-law bs j e is) a);
    recorded = λ c. absurd (nor (kind ∙ c));
  }

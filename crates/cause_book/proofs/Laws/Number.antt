-- The number that is answered is the book's number, and the body's: by the numbers of the first faults.
use mathlib.Core.Bool.{Bool, true, false, cond, not, ◌||◌}
use mathlib.Core.List.{List}
use mathlib.Core.Logic.{inl, inr, ⊎_elim}
use mathlib.Core.Path.{◌≡◌, refl, sym, ap, ◌∙◌, subst}
use Prim.Native.Nat.{ℕ, ◌+◌, ◌*◌, ◌<◌}
use native.Mathlib.Omega.{arith}
use lib.Dec.{eqb, ltb}
use lib.ListN.{length}
use borrow.Author.Tests.{not-false}
use Rattle.std.specs.Prelude.{Some, None}
use Rattle.fields.specs.Bytes.{byte_at}
use Rattle.editions.specs.Edition.{good_edition}
use Rattle.contents.specs.Contents.{edition_of, count_of, width_of, start_of, header_fault, contents_number}
use Rattle.contents.proofs.Laws.Some.{or-no-left, or-no-right}
use Rattle.contents.proofs.Laws.Test.{number-nine}
use Rattle.book_bodies.specs.Number.{circuit_body_number, record_body_number, TableNumber}
use Rattle.book.specs.Book.{bytes_of, BodyNumber, BookNumber}
use Rattle.cause.specs.Cause.{Finding, number_of, sound, found_number}
use Rattle.cause_contents.specs.Contents.{contents_found}
use Rattle.cause_contents.proofs.Laws.Number.{contents-number}
use Rattle.cause_circuit.proofs.Laws.Number.{circuit-number, record-number}
use Rattle.cause_table.specs.Table.{TableFound}
use Rattle.cause_table.proofs.Laws.Number.{body-number as eleven-number}
use Rattle.cause_book.proofs.Laws.Ways.{why-finding}
use Rattle.cause_book.specs.Why.{Why, why_number, BodyFound, BookWhy, BodyWhy}

-- good contents state a good edition
good-edition : (bs : List ℕ) → contents_number bs ≡ 0 → good_edition (edition_of bs) ≡ true
unfolding header_fault
good-edition bs z =
    let short = ltb (length bs) 4 in
    let long = ltb 60000 (length bs) in
    let one = not (eqb (byte_at bs 0) 0x51) in
    let two = not (eqb (byte_at bs 1) 0x4E) in
    let edition = not (good_edition (edition_of bs)) in
    let count = ltb 16 (count_of bs) in
    not-false (good_edition (edition_of bs)) (or-no-right (short || long || one || two) edition (or-no-left (short || long || one || two || edition) count (clear (header_fault bs) refl)))
  where
    clear : (t : Bool) → header_fault bs ≡ t → t ≡ false
    clear true e = absurd (let n : 9 ≡ contents_number bs = number-nine bs e in omega arith)
    clear false e = refl

-- ---- a table's body
table-number : (from wat n : ℕ) (bs : List ℕ) (f : Finding) → TableFound from wat n bs f → TableNumber n bs (found_number f)
unfolding number_of
table-number from wat n bs f T = record {
  fault = λ h. ap found_number (T.fault h) ∙ eleven-number from wat n bs ∙ ap (λ (b : Bool). cond b 11 0) h;
  broken = λ h no. ap found_number (T.broken h no);
  sound = λ h yes. ap found_number (T.good h yes);
  normal = λ z. T.normal z;
}

-- ---- a body
pub body-number : (bs : List ℕ) → contents_number bs ≡ 0 → (j : ℕ) (f : Finding) → BodyFound bs j f → BodyNumber bs j (found_number f)
unfolding circuit_body_number record_body_number
body-number bs z j f F = record {
  circuit = λ c. ap found_number (F.circuit c) ∙ circuit-number (start_of bs j) (5 + 8 * j) (edition_of bs) (width_of bs j) (bytes_of bs j) (good-edition bs z);
  table = λ c. table-number (start_of bs j) (5 + 8 * j) (width_of bs j) (bytes_of bs j) f (F.table c);
  recorded = λ c. ap found_number (F.recorded c) ∙ record-number (start_of bs j) (5 + 8 * j) (width_of bs j) (bytes_of bs j);
}

-- ---- the book: the number answered is the book's
pub why-number : (bs : List ℕ) (r : Why) → BookWhy bs r → BookNumber bs (why_number r)
why-number bs r W = record {
  contents = λ ne. ap why_number (W.contents ne) ∙ why-finding None (contents_found bs) ∙ contents-number bs;
  bodies = λ z. ⊎_elim
      (λ u. inl (ap why_number u.0, λ i l. body-number bs z i sound (u.1 i l)))
      (λ F.
      let e : why_number r ≡ found_number F.fault = ap why_number F.is ∙ why-finding (Some F.at) F.fault in
      inr (record {
        at = F.at;
        below = F.below;
        before = λ i l. body-number bs z i sound (F.before i l);
        here = subst (BodyNumber bs F.at) (sym e) (body-number bs z F.at F.fault F.here);
        refused = λ k. F.faulty (sym e ∙ k);
      })) (W.bodies z);
}

-- ---- a body of the book: the number answered is the body's
pub why-body-number : (bs : List ℕ) (j : ℕ) (r : Why) → BodyWhy bs j r → contents_number bs ≡ 0 → j < count_of bs → BodyNumber bs j (why_number r)
why-body-number bs j r W z l = subst (BodyNumber bs j) (sym (ap why_number (W.is z l) ∙ why-finding (Some j) W.fault)) (body-number bs z j W.fault (W.here z l))

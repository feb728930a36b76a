-- What the library lists of a book is the text that its bytes define: body by body, from what reading each promises.
use mathlib.Core.List.{List, ◌++◌}
use mathlib.Core.Logic.{◌≢◌, ◌⊎◌, ⊎_elim}
use mathlib.Core.Path.{◌≡◌, refl, sym, ◌∙◌, ap, ap₂, subst}
use Prim.Native.Nat.{ℕ, zero, suc, ◌≤◌, ◌<◌}
use native.Mathlib.Omega.{arith}
use lib.ListN.{length, take}
use Rattle.exact.specs.Refusal.{accepted}
use Rattle.exact.proofs.Laws.Bias.{is-only}
use Rattle.exact.proofs.Laws.Chance.{one-chance-of}
use Rattle.bits.proofs.Laws.Bit.{same_or}
use Rattle.contents.specs.Contents.{edition_of, count_of, kind_of, width_of, entry_of, contents_number}
use Rattle.contents.proofs.Laws.Good.{good}
use Rattle.book_bodies.specs.declared.Body.{Body}
use Rattle.state.specs.declared.State.{State}
use Rattle.book.specs.Book.{bytes_of}
use Rattle.book_bodies.specs.declared.Said.{Said}
use Rattle.book_bodies.specs.declared.Said.TheVariants.{Refused, Circuit, Record, Whole}
use Rattle.book_bodies.specs.Number.{TableNumber}
use Rattle.book_bodies.specs.Answer.{said_number, BodyAnswer}
use Rattle.book.proofs.Laws.Only.{body-number, one_number}
use Rattle.lines.specs.Lines.{book_line, circuit_line, record_line, refused_line, refused_body_line}
use Rattle.listing_line.specs.Line.{body_line}
use Rattle.listing.specs.Listing.{body_lines, Listing, StrictListing, Listed, ListedStrict}
use Rattle.theorem_whole.specs.Text.{CircuitLine, RecordLine, LineOf, lines_of, Text, StrictText}
use Rattle.lines_words.specs.Overlay.{top}
use Rattle.listing.proofs.Laws.Fits.{listed-front}
use Rattle.theorem_whole.proofs.Laws.Refusal.{body-to, body-from, book-to, book-from, body-said}
use Rattle.theorem_whole.proofs.Laws.Lines.{circuit-line, circuit-passed, record-line, record-passed, table-line}

-- ---- a line
refused-line : (j : ℕ) (s : Said) (t : State) → said_number s ≢ accepted → body_line j s t ≡ refused_body_line j (said_number s)
unfolding body_line
refused-line j (Refused k) t ne = refl
refused-line j (Circuit a) t ne = absurd (ne refl)
refused-line j (Record c) t ne = absurd (ne refl)
refused-line j Whole t ne = absurd (ne refl)

line_of : (bs : List ℕ) (j : ℕ) (r : Body) → BodyAnswer (edition_of bs) (kind_of bs j) (width_of bs j) (bytes_of bs j) r → LineOf bs j (body_line j r.said r.table)
line_of bs j r A =
    let N = body-said bs j r A in record {
      number = said_number r.said;
      tested = body-to bs j (said_number r.said) N;
      refused = refused-line j r.said r.table;
      circuit = λ z k.
          let c = sym (N.circuit k) ∙ z in
          circuit-line (edition_of bs) (width_of bs j) j (bytes_of bs j) r c (circuit-passed (edition_of bs) (width_of bs j) (bytes_of bs j) c) (A.circuit k);
      table = λ z k. table-line (width_of bs j) j (bytes_of bs j) r (subst (TableNumber (width_of bs j) (bytes_of bs j)) z (N.table k)) (A.table k);
      recorded = λ z k.
          let c = sym (N.recorded k) ∙ z in
          record-line (width_of bs j) j (bytes_of bs j) r c (record-passed (width_of bs j) (bytes_of bs j) c) (A.recorded k);
    }

-- ---- a book
lines_are : (n : ℕ) (f : ℕ → Body) → body_lines n f ≡ lines_of n (λ j. body_line j (f j).said (f j).table)
unfolding body_lines lines_of
lines_are zero f = refl
lines_are (suc n) f = ap (λ (l : List ℕ). l ++ body_line n (f n).said (f n).table) (lines_are n f)

-- a listing is what the bytes say
pub listing-text : (bs text : List ℕ) → Listing bs text → Text bs text
listing-text bs text L = record {
  refused = L.refused;
  lines = λ j. body_line j (L.bodies j).said (L.bodies j).table;
  each = λ z j h. line_of bs j (L.bodies j) ((L.read j h).answer z h);
  listed = λ z. L.listed z ∙ ap (λ (l : List ℕ). book_line (count_of bs) ++ l) (lines_are (count_of bs) L.bodies);
}

pub strict-listing-text : (bs text : List ℕ) → StrictListing bs text → StrictText bs text
strict-listing-text bs text L = record {
  number = L.number;
  tested = book-to bs L.number L.tested;
  refused = L.refused;
  listed = λ z. listing-text bs text (L.listed z);
}

-- ---- what `listing::list` promises of an area of 312 bytes or more: as many bytes of it as are answered are the text of the book
pub bytes-to-text : (bs xs ys : List ℕ) (r : ℕ) → Listed bs xs ys r → 312 ≤ length xs → length xs ≤ top → Text bs (take r ys)
bytes-to-text bs xs ys r L room high = subst (Text bs) (sym (listed-front (Listing bs) xs ys r L room high)) (listing-text bs L.text L.listing)

-- the same of `listing::list_strict`
pub bytes-to-strict-text : (bs xs ys : List ℕ) (r : ℕ) → ListedStrict bs xs ys r → 312 ≤ length xs → length xs ≤ top → StrictText bs (take r ys)
bytes-to-strict-text bs xs ys r L room high =
    subst (StrictText bs) (sym (listed-front (StrictListing bs) xs ys r L room high)) (strict-listing-text bs L.text L.listing)

-- ---- no second text
one-circuit : (ed n : ℕ) (bs : List ℕ) (j : ℕ) (l m : List ℕ) → CircuitLine ed n bs j l → CircuitLine ed n bs j m → l ≡ m
one-circuit ed n bs j l m A B =
    A.text ∙ ap (circuit_line j) (is-only A.amount B.amount _ _ A.small B.small A.value B.value) ∙ sym B.text

one-record : (n : ℕ) (bs : List ℕ) (j : ℕ) (l m : List ℕ) → RecordLine n bs j l → RecordLine n bs j m → l ≡ m
one-record n bs j l m A B = A.text ∙ ap (record_line j) (one-chance-of A.chance B.chance _ _ A.value B.value) ∙ sym B.text

one_line : (bs : List ℕ) → contents_number bs ≡ accepted → (j : ℕ) → j < count_of bs → (l m : List ℕ) → LineOf bs j l → LineOf bs j m → l ≡ m
one_line bs z j h l m A B = ⊎_elim fine (λ ne. A.refused ne ∙ ap (refused_body_line j) same ∙ sym (B.refused (λ y. ne (same ∙ y)))) (same_or A.number accepted)
  where
    same : A.number ≡ B.number
    same = body-number bs z j A.number B.number h (body-from bs j A.number A.tested) (body-from bs j B.number B.tested)

    fine : A.number ≡ accepted → l ≡ m
    fine y =
        ⊎_elim (λ k. one-circuit (edition_of bs) (width_of bs j) (bytes_of bs j) j l m (A.circuit y k) (B.circuit (sym same ∙ y) k))
        (λ o. ⊎_elim (λ k. A.table y k ∙ sym (B.table (sym same ∙ y) k))
        (λ k. one-record (width_of bs j) (bytes_of bs j) j l m (A.recorded y k.1) (B.recorded (sym same ∙ y) k.1)) o) ((good bs z).body j h (entry_of bs j) refl).kind

lines_same : (n : ℕ) (f g : ℕ → List ℕ) → ((j : ℕ) → j < n → f j ≡ g j) → lines_of n f ≡ lines_of n g
unfolding lines_of
lines_same zero f g h = refl
lines_same (suc n) f g h = ap₂ (λ (a b : List ℕ). a ++ b) (lines_same n f g (λ j l. h j (omega arith))) (h n (omega arith))

pub one-text : (bs s t : List ℕ) → Text bs s → Text bs t → s ≡ t
one-text bs s t A B = ⊎_elim fine (λ ne. A.refused ne ∙ sym (B.refused ne)) (same_or (contents_number bs) accepted)
  where
    fine : contents_number bs ≡ accepted → s ≡ t
    fine z =
        A.listed z
        ∙ ap (λ (l : List ℕ). book_line (count_of bs) ++ l) (lines_same (count_of bs) A.lines B.lines (λ j h. one_line bs z j h _ _ (A.each z j h) (B.each z j h)))
        ∙ sym (B.listed z)

pub one-strict-text : (bs s t : List ℕ) → StrictText bs s → StrictText bs t → s ≡ t
one-strict-text bs s t A B =
    let same = one_number bs A.number B.number (book-from bs A.number A.tested) (book-from bs B.number B.tested) in
    ⊎_elim (λ z. one-text bs s t (A.listed z) (B.listed (sym same ∙ z)))
    (λ ne. A.refused ne ∙ ap refused_line same ∙ sym (B.refused (λ z. ne (same ∙ z)))) (same_or A.number accepted)

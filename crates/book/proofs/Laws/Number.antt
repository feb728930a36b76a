-- A body by its entry: its answer and its number; and the number of the book on each way through the code.
use mathlib.Core.List.{List}
use mathlib.Core.Logic.{◌≢◌, inl, inr, ⊎_elim}
use mathlib.Core.Path.{◌≡◌, refl, sym, ap, ◌∙◌, subst}
use Prim.Native.Nat.{ℕ, ◌+◌, ◌-◌, ◌≤◌, ◌<◌}
use native.Mathlib.Omega.{arith}
use lib.ListN.{length, take, drop}
use Rattle.exact.proofs.Laws.Sum.{split}
use Rattle.bits.proofs.Laws.Bit.{same_or}
use Rattle.contents.specs.declared.Entry.{Entry}
use Rattle.contents.specs.Contents.{edition_of, count_of, kind_of, width_of, entry_of, contents_number}
use Rattle.contents.proofs.Laws.Good.{good}
use Rattle.book.specs.Book.{bytes_of, BodyNumber, Clear, BookNumber}
use Rattle.book_bodies.specs.Number.{OwnNumber}
use Rattle.book_bodies.specs.declared.Body.{Body}
use Rattle.book_bodies.specs.Answer.{BodyAnswer}

-- ---- the part of the book that is lent
part-law : (bs : List ℕ) (j : ℕ) (e : Entry) → e ≡ entry_of bs j → take (e.start + e.length - e.start) (drop e.start bs) ≡ bytes_of bs j
unfolding bytes_of
part-law bs j e is =
    let q : e.start + e.length - e.start ≡ e.length = omega arith in
    ap (λ (k : ℕ). take k (drop e.start bs)) q ∙ ap (λ (x : Entry). take x.length (drop x.start bs)) is

-- ---- a body by its kind
-- the answer to the part of an entry, as the book's
pub answer_at : (bs : List ℕ) (j ed : ℕ) (e : Entry) (r : Body) → ed ≡ edition_of bs → e ≡ entry_of bs j → BodyAnswer ed e.kind e.width (take (e.start + e.length - e.start) (drop e.start bs)) r
    → BodyAnswer (edition_of bs) (kind_of bs j) (width_of bs j) (bytes_of bs j) r
answer_at bs j ed e r states is a =
    subst (λ (v : ℕ). BodyAnswer v (kind_of bs j) (width_of bs j) (bytes_of bs j) r) states
    (subst (λ (x : Entry). BodyAnswer ed x.kind x.width (bytes_of bs j) r) is
    (subst (λ (l : List ℕ). BodyAnswer ed e.kind e.width l r) (part-law bs j e is) a))

-- ---- the number of a body
-- the number of the part of an entry, as the book's
pub number_at : (bs : List ℕ) (j ed : ℕ) (e : Entry) (k : ℕ) → ed ≡ edition_of bs → e ≡ entry_of bs j → OwnNumber ed e.kind e.width (take (e.start + e.length - e.start) (drop e.start bs)) k → BodyNumber bs j k
number_at bs j ed e k states is a =
    let own : OwnNumber (edition_of bs) (kind_of bs j) (width_of bs j) (bytes_of bs j) k =
    subst (λ (v : ℕ). OwnNumber v (kind_of bs j) (width_of bs j) (bytes_of bs j) k) states
    (subst (λ (x : Entry). OwnNumber ed x.kind x.width (bytes_of bs j) k) is
    (subst (λ (l : List ℕ). OwnNumber ed e.kind e.width l k) (part-law bs j e is) a)) in
    record { circuit = own.circuit; table = own.table; recorded = own.recorded }

-- ---- the number of the book
module _ (bs : List ℕ) where
  pub clear_none : Clear bs 0
  clear_none i h = absurd (omega (arith, h))

  pub clear_next : (j : ℕ) → Clear bs j → BodyNumber bs j 0 → Clear bs (j + 1)
  clear_next j C b i h = ⊎_elim (λ l. C i l) (λ l. let q : j ≡ i = omega (arith, l, h) in subst (λ (v : ℕ). BodyNumber bs v 0) q b) (split i j)

  pub book-contents : (k : ℕ) → k ≡ contents_number bs → k ≢ 0 → BookNumber bs k
  book-contents k e ne = record { contents = λ h. e; bodies = λ z. absurd (ne (e ∙ z)) }

  pub book-refused : (j k : ℕ) → contents_number bs ≡ 0 → j < count_of bs → Clear bs j → BodyNumber bs j k → k ≢ 0 → BookNumber bs k
  book-refused j k z h C b ne = record {
    contents = λ f. absurd (f z);
    bodies = λ f. inr (record { at = j; below = h; before = C; here = b; refused = ne });
  }

  pub book-clear : (j : ℕ) → contents_number bs ≡ 0 → count_of bs ≤ j → Clear bs j → BookNumber bs 0
  book-clear j z h C = record {
    contents = λ f. absurd (f z);
    bodies = λ f. inl (refl, λ i l. C i (omega (arith, h, l)));
  }

  -- a good book has good contents
  pub contents-good : (k : ℕ) → BookNumber bs k → k ≡ 0 → contents_number bs ≡ 0
  contents-good k B z = ⊎_elim (λ e. e) (λ ne. sym (B.contents ne) ∙ z) (same_or (contents_number bs) 0)

  -- a body of good contents lies within the book
  pub entry-within : (j : ℕ) (e : Entry) → contents_number bs ≡ 0 → j < count_of bs → e ≡ entry_of bs j → (e.start + e.length ≤ length bs) × (length bs ≤ 60000)
  entry-within j e z h is = (((good bs z).body j h e is).within, (good bs z).short)

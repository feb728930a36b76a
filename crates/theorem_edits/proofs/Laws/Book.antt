-- What an edit leaves at the front of the area is an accepted book of exactly the edited bodies: its contents are laid from their lists, and each body is accepted.
use mathlib.Core.Bool.{true}
use mathlib.Core.List.{List}
use mathlib.Core.Logic.{⊎_elim}
use mathlib.Core.Path.{◌≡◌, refl, sym, ap, ap₂, ◌∙◌, subst}
use Prim.Native.Nat.{ℕ, ◌+◌, ◌*◌, ◌≤◌, ◌<◌}
use native.Mathlib.Omega.{arith}
use borrow.Author.Tests.{ltb-false}
use lib.ListN.{length, take, get_or}
use lib.Seq.{take_at}
use Rattle.exact.specs.Refusal.{accepted}
use Rattle.exact.proofs.Laws.Sum.{split}
use Rattle.editions.specs.Edition.{good_edition}
use Rattle.fields.proofs.Laws.Listed.{length-listed, listed_at}
use Rattle.contents.specs.Contents.{count_of}
use Rattle.contents.proofs.Laws.Good.{good}
use Rattle.book_bodies.specs.Number.{circuit_body_number, record_body_number, TableNumber, OwnNumber}
use Rattle.book.proofs.Laws.Number.{contents-good}
use Rattle.theorem_round_trip.specs.Book.{Fits, Holds}
use Rattle.theorem_round_trip.proofs.Laws.Book.{laid-book}
use Rattle.edit_numbers.specs.Volume.{Volume, Edit, remove, replace, add, volume_of, edited, closed_up}
use Rattle.edit_numbers.specs.Inner.Passed.{Passed}
use Rattle.edit_numbers.proofs.Laws.Parts.{kinds_of, widths_of, lengths_of}
use Rattle.edit_numbers.proofs.Laws.Passed.{passed}
use Rattle.edit.specs.declared.Edited.{Edited}
use Rattle.edit.specs.Edit.{Edits}
use Rattle.theorem_edits.specs.Book.{BookOf}
use Rattle.edit.proofs.Laws.Accepted.{edition-good}
use Rattle.edit.proofs.Laws.Bodies.{Fine, fine-edited}
use Rattle.edit.proofs.Laws.Lay.{lay-volume}
use Rattle.edit.proofs.Laws.Done.{same-edition}

-- a body in its place of the lists, from its own number
fits-of : (ed : ℕ) (ks ws ls : List ℕ) (j k w : ℕ) (body : List ℕ) → get_or ks j 0 ≡ k → get_or ws j 0 ≡ w → length body ≡ get_or ls j 0 → OwnNumber ed k w body accepted → Fits ed ks ws ls j body
fits-of ed ks ws ls j k w body p q l O = record {
  long = l;
  circuit = λ c. ap (λ (x : ℕ). circuit_body_number ed x body) q ∙ sym (O.circuit (sym p ∙ c));
  recorded = λ c. ap (λ (x : ℕ). record_body_number x body) q ∙ sym (O.recorded (sym p ∙ c));
  table = λ c. subst (λ (x : ℕ). TableNumber x body accepted) (sym q) (O.table (sym p ∙ c));
}

-- a volume of bodies that are not refused is a book of them
module _ (v : Volume) (g : good_edition v.edition ≡ true) (few : v.count ≤ 16) (fine : (i : ℕ) → i < v.count → Fine v.edition (v.kind i) (v.width i) (v.body i)) (short : length (closed_up v) ≤ 60000) where
  kinds-long : length (kinds_of v) ≡ v.count
  kinds-long = length-listed v.count v.kind

  held : Holds v.edition (kinds_of v) (widths_of v) (lengths_of v) v.body (closed_up v)
  unfolding closed_up
  held =
      laid-book (4 + 8 * v.count) v.edition (kinds_of v) (widths_of v) (lengths_of v) v.body (lay-volume v (4 + 8 * v.count) g few (λ i l. (fine i l).good) short (omega arith))
      (λ i l.
      let h : i < v.count = omega (arith, l, kinds-long) in
      fits-of v.edition (kinds_of v) (widths_of v) (lengths_of v) i (v.kind i) (v.width i) (v.body i)
      (listed_at 0 v.count v.kind i h) (listed_at 0 v.count v.width i h) (sym (listed_at 0 v.count (λ u. length (v.body u)) i h)) (fine i h).own)

  pub book-of : BookOf v (closed_up v)
  book-of = record {
    number = held.number;
    edition = held.edition;
    count = held.count ∙ kinds-long;
    kind = λ i l. held.kind i (omega (arith, l, kinds-long)) ∙ listed_at 0 v.count v.kind i l;
    width = λ i l. held.width i (omega (arith, l, kinds-long)) ∙ listed_at 0 v.count v.width i l;
    body = λ i l. held.body i (omega (arith, l, kinds-long));
  }

-- no edit that is not refused makes a seventeenth body
few-edited : (bs : List ℕ) (room : ℕ) (e : Edit) → Passed bs room e → (edited e (volume_of bs)).count ≤ 16
few-edited bs room (remove j) P = omega (arith, (good bs (contents-good bs 0 P.whole refl)).count)
few-edited bs room (replace j kind width new) P = (good bs (contents-good bs 0 P.whole refl)).count
few-edited bs room (add kind width new) P = omega (arith, ltb-false 15 (count_of bs) P.few)

module _ (xs : List ℕ) (n : ℕ) (e : Edit) (r : Edited) (ys : List ℕ) (E : Edits xs n e r ys) (z : r.refusal ≡ accepted) where
  pub edit-within : n ≤ length xs
  edit-within = ⊎_elim (λ (l : length xs < n). absurd (omega (arith, E.number.beyond l, z))) (λ (l : n ≤ length xs). l) (split (length xs) n)

  pub edit-passed : Passed (take n xs) (length xs) e
  edit-passed = passed (take n xs) (length xs) e r.refusal (E.number.within edit-within) z

  abbrev v : Volume
  v = edited e (volume_of (take n xs))

  front-is : take r.length ys ≡ closed_up v
  front-is =
      ap₂ (λ (a : Edited) (l : List ℕ). take a.length l) (E.done z).0 (E.done z).1
      ∙ take_at (closed_up v) _ (length (closed_up v)) refl

  -- "Afterwards the front of the area is an accepted book", of exactly the edited bodies
  pub edit-book : BookOf v (take r.length ys)
  edit-book =
      let bs = take n xs in
      let P = edit-passed in
      let same = same-edition e (volume_of bs) in
      let c = contents-good bs 0 P.whole refl in
      subst (BookOf v) (sym front-is)
      (book-of v (ap good_edition same ∙ edition-good bs c) (few-edited bs (length xs) e P)
      (λ i l. subst (λ (d : ℕ). Fine d (v.kind i) (v.width i) (v.body i)) (sym same) (fine-edited bs (length xs) e P i l)) P.short)

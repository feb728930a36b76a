-- The bodies of a book after an edit that is not refused: each is one of the old book or the new one, so each has a good kind and is not refused.
use mathlib.Core.Bool.{true}
use mathlib.Core.List.{List}
use mathlib.Core.Logic.{inl, inr, ⊎_elim}
use mathlib.Core.Path.{◌≡◌, refl, sym, ap, subst}
use Prim.Native.Nat.{ℕ, suc, ◌-◌, ◌≤◌, ◌<◌}
use native.Mathlib.Decide.{ℕ_discrete}
use native.Mathlib.Omega.{arith}
use lib.Dec.{ltb}
use lib.ListN.{length}
use borrow.Author.Tests.{not-false, ltb-true}
use Rattle.exact.specs.Refusal.{accepted}
use Rattle.exact.proofs.Laws.Sum.{split}
use Rattle.contents.specs.Contents.{edition_of, count_of, kind_of, width_of, entry_of, good_kind}
use Rattle.book_bodies.specs.Number.{OwnNumber}
use Rattle.book.specs.Book.{bytes_of, BodyNumber, Clear, BodiesNumber, BookNumber}
use Rattle.book.proofs.Laws.Number.{contents-good}
use Rattle.edit_numbers.specs.Volume.{Edit, remove, replace, add, volume_of, swapped, edited}
use Rattle.edit_numbers.specs.Inner.Passed.{Passed}
use Rattle.edit_numbers.proofs.Laws.Parts.{skip_below, skip-from, swapped_at, swapped_off}
use Rattle.edit_numbers.proofs.Laws.Size.{size-replaced, size-added}
use Rattle.edit.proofs.Laws.Accepted.{kind-good}

-- a body that is not refused, of a good kind
pub record Fine (ed kind width : ℕ) (body : List ℕ) : Type 0 where
  pub good : good_kind ed kind ≡ true
  pub own : OwnNumber ed kind width body accepted

-- its number in the book, on its own
pub own_of : (bs : List ℕ) (j k : ℕ) → BodyNumber bs j k → OwnNumber (edition_of bs) (kind_of bs j) (width_of bs j) (bytes_of bs j) k
own_of bs j k B = record { circuit = B.circuit; table = B.table; recorded = B.recorded }

-- at other names of its kind, width and bytes
fine-at : (ed k w : ℕ) (b : List ℕ) (k' w' : ℕ) (b' : List ℕ) → k' ≡ k → w' ≡ w → b' ≡ b → Fine ed k w b → Fine ed k' w' b'
fine-at ed k w b k' w' b' p q r F =
    subst (λ (x : ℕ). Fine ed x w' b') (sym p) (subst (λ (x : ℕ). Fine ed k x b') (sym q) (subst (λ (x : List ℕ). Fine ed k w x) (sym r) F))

clear_of : (bs : List ℕ) → BodiesNumber bs accepted → Clear bs (count_of bs)
clear_of bs (inl a) = a.1
clear_of bs (inr R) = absurd (R.refused refl)

module _ (bs : List ℕ) where
  pub fine-old : BookNumber bs accepted → (i : ℕ) → i < count_of bs → Fine (edition_of bs) (kind_of bs i) (width_of bs i) (bytes_of bs i)
  fine-old B i h =
      let z = contents-good bs 0 B refl in
      record { good = kind-good bs z i h; own = own_of bs i accepted (clear_of bs (B.bodies z) i h) }

  -- with a new body at j
  fine-swapped : (j kind width : ℕ) (new : List ℕ) → Fine (edition_of bs) kind width new → BookNumber bs accepted → (i : ℕ) → ((i ≡ j → ⊥) → i < count_of bs)
      → Fine (edition_of bs) (swapped j kind (kind_of bs) i) (swapped j width (width_of bs) i) (swapped j new (bytes_of bs) i)
  fine-swapped j kind width new F B i other = go (ℕ_discrete i j)
    where
      go : Dec (i ≡ j) → Fine (edition_of bs) (swapped j kind (kind_of bs) i) (swapped j width (width_of bs) i) (swapped j new (bytes_of bs) i)
      go (yes q) = fine-at (edition_of bs) _ _ _ _ _ _ (swapped_at j kind (kind_of bs) i q) (swapped_at j width (width_of bs) i q) (swapped_at j new (bytes_of bs) i q) F
      go (no ne) = fine-at (edition_of bs) _ _ _ _ _ _ (swapped_off j kind (kind_of bs) i ne) (swapped_off j width (width_of bs) i ne) (swapped_off j new (bytes_of bs) i ne) (fine-old B i (other ne))

  -- body i of the book after the edit
  pub fine-edited : (room : ℕ) (e : Edit) → Passed bs room e → (i : ℕ) → i < (edited e (volume_of bs)).count
      → Fine (edition_of bs) ((edited e (volume_of bs)).kind i) ((edited e (volume_of bs)).width i) ((edited e (volume_of bs)).body i)
  fine-edited room (remove j) P i h =
      let there : j < count_of bs = ltb-true j (count_of bs) (not-false (ltb j (count_of bs)) P.there) in
      ⊎_elim
      (λ (b : i < j). fine-at (edition_of bs) _ _ _ _ _ _ (ap (kind_of bs) (skip_below j i b)) (ap (width_of bs) (skip_below j i b)) (ap (bytes_of bs) (skip_below j i b)) (fine-old P.whole i (omega (arith, b, there))))
      (λ (b : j ≤ i). fine-at (edition_of bs) _ _ _ _ _ _ (ap (kind_of bs) (skip-from j i b)) (ap (width_of bs) (skip-from j i b)) (ap (bytes_of bs) (skip-from j i b)) (fine-old P.whole (suc i) (omega (arith, h))))
      (split i j)
  fine-edited room (replace j kind width new) P i h =
      fine-swapped j kind width new (record { good = not-false (good_kind (edition_of bs) kind) P.kind; own = P.own }) P.whole i (λ ne. h)
  fine-edited room (add kind width new) P i h =
      fine-swapped (count_of bs) kind width new (record { good = not-false (good_kind (edition_of bs) kind) P.kind; own = P.own }) P.whole i (λ ne. omega (arith, h, ne))

-- ---- a new body's length fits its entry
pub short-replaced : (bs : List ℕ) (room j kind width : ℕ) (new : List ℕ) → Passed bs room (replace j kind width new) → length new < 65536
short-replaced bs room j kind width new P =
    let there : j < count_of bs = ltb-true j (count_of bs) (not-false (ltb j (count_of bs)) P.there) in
    omega (arith, size-replaced bs (contents-good bs 0 P.whole refl) j there (entry_of bs j) refl kind width new, P.short)

pub short-added : (bs : List ℕ) (room kind width : ℕ) (new : List ℕ) → Passed bs room (add kind width new) → length new < 65536
short-added bs room kind width new P = omega (arith, size-added bs (contents-good bs 0 P.whole refl) kind width new, P.short)

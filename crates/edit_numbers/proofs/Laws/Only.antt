-- No second result: of the number of an edit. By the truth of each test.
use mathlib.Core.Bool.{Bool, true, false}
use mathlib.Core.List.{List}
use mathlib.Core.Logic.{⊎_elim}
use mathlib.Core.Path.{◌≡◌, refl, sym, ap₂, ◌∙◌}
use Prim.Native.Nat.{ℕ, ◌≤◌, ◌<◌}
use lib.Dec.{ltb}
use lib.ListN.{length, take}
use borrow.Author.Tests.{not-false}
use Rattle.exact.proofs.Laws.Sum.{split}
use Rattle.bits.proofs.Laws.Bit.{same_or}
use Rattle.contents.specs.Contents.{edition_of, count_of, good_kind}
use Rattle.book_bodies.proofs.Laws.Only.{one-own-number}
use Rattle.book.proofs.Laws.Only.{one_number}
use Rattle.edit_numbers.specs.Volume.{Edit, remove, replace, add}
use Rattle.edit_numbers.specs.Number.{missing, bad_new, OwnOf, seventeenth, size_after, order, BookEdit, EditNumber}
use Rattle.edit_numbers.proofs.Laws.Order.{order-whole, order-missing, order-kind}

-- a new body of a good kind has one number
own-only : (ed : ℕ) (e : Edit) (o p : ℕ) → bad_new ed e ≡ false → OwnOf ed e o → OwnOf ed e p → o ≡ p
own-only ed (remove j) o p g O P = O ∙ sym P
own-only ed (replace j kind width body) o p g O P = one-own-number ed kind width body o p (not-false (good_kind ed kind) g) O P
own-only ed (add kind width body) o p g O P = one-own-number ed kind width body o p (not-false (good_kind ed kind) g) O P

module _ (bs : List ℕ) (room : ℕ) (e : Edit) (k m : ℕ) (K : BookEdit bs room e k) (M : BookEdit bs room e m) where
  abbrev gone : Bool
  gone = missing e (count_of bs)

  abbrev full : Bool
  full = seventeenth e (count_of bs)

  abbrev long : Bool
  long = ltb 60000 (size_after bs e)

  abbrev short : Bool
  short = ltb room (size_after bs e)

  abbrev at : ℕ → ℕ → ℕ
  at w o = order w gone (bad_new (edition_of bs) e) o full long short

  same_whole : K.whole ≡ M.whole
  same_whole = one_number bs K.whole M.whole K.tested M.tested

  module _ (z : K.whole ≡ 0) where
    mz : M.whole ≡ 0
    mz = sym same_whole ∙ z

    by_kind : gone ≡ false → (t : Bool) → bad_new (edition_of bs) e ≡ t → k ≡ m
    by_kind g true h = K.is ∙ sym (order-kind K.whole gone (bad_new (edition_of bs) e) K.own full long short z g h) ∙ order-kind M.whole gone (bad_new (edition_of bs) e) M.own full long short mz g h ∙ sym M.is
    by_kind g false h =
        K.is ∙ ap₂ at same_whole (own-only (edition_of bs) e K.own M.own h (K.owned z g h) (M.owned mz g h)) ∙ sym M.is

    by_place : (t : Bool) → gone ≡ t → k ≡ m
    by_place true h = K.is ∙ sym (order-missing K.whole gone (bad_new (edition_of bs) e) K.own full long short z h) ∙ order-missing M.whole gone (bad_new (edition_of bs) e) M.own full long short mz h ∙ sym M.is
    by_place false h = by_kind h (bad_new (edition_of bs) e) refl

  pub one-book-edit : k ≡ m
  one-book-edit =
      ⊎_elim (λ z. by_place z gone refl)
      (λ ne. K.is ∙ sym (order-whole K.whole gone (bad_new (edition_of bs) e) K.own full long short ne) ∙ same_whole ∙ order-whole M.whole gone (bad_new (edition_of bs) e) M.own full long short (λ z. ne (same_whole ∙ z)) ∙ sym M.is)
      (same_or K.whole 0)

pub one-edit-number : (xs : List ℕ) (n : ℕ) (e : Edit) (k m : ℕ) → EditNumber xs n e k → EditNumber xs n e m → k ≡ m
one-edit-number xs n e k m K M =
    ⊎_elim (λ (h : length xs < n). K.beyond h ∙ sym (M.beyond h)) (λ (h : n ≤ length xs). one-book-edit (take n xs) (length xs) e k m (K.within h) (M.within h)) (split (length xs) n)

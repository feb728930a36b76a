-- What is so of an edit that is not refused: no test holds, since each would have given its number.
use mathlib.Core.Bool.{Bool, true, false}
use mathlib.Core.List.{List, [], ◌∷◌}
use mathlib.Core.Logic.{◌≢◌, ⊎_elim}
use mathlib.Core.Path.{◌≡◌, refl, sym, ◌∙◌, subst}
use Prim.Native.Nat.{ℕ}
use native.Mathlib.Omega.{arith}
use lib.Dec.{ltb}
use borrow.Author.Tests.{ltb-false}
use Rattle.exact.specs.Refusal.{bad_contents, area_short, first, ◌gives◌}
use Rattle.bits.proofs.Laws.Bit.{same_or}
use Rattle.contents.specs.Contents.{edition_of, count_of}
use Rattle.book.specs.Book.{BookNumber}
use Rattle.edit_numbers.specs.Volume.{Edit}
use Rattle.edit_numbers.specs.Number.{missing, bad_new, OwnOf, seventeenth, size_after, order, BookEdit}
use Rattle.edit_numbers.specs.Inner.Passed.{Passed}
use Rattle.edit_numbers.proofs.Laws.Order.{order-whole, order-missing, order-kind, order-own, order-seventeenth, order-room}

-- ---- the tests of an order that gives 0
module _ (w : ℕ) (m b : Bool) (o : ℕ) (s t u : Bool) (z : order w m b o s t u ≡ 0) where
  none-whole : w ≡ 0
  none-whole = ⊎_elim (λ (e : w ≡ 0). e) (λ (ne : w ≢ 0). order-whole w m b o s t u ne ∙ z) (same_or w 0)

  none-missing : m ≡ false
  none-missing = go m refl
    where
      go : (x : Bool) → m ≡ x → x ≡ false
      go true h = absurd (omega (arith, order-missing w m b o s t u none-whole h, z))
      go false h = refl

  none-kind : b ≡ false
  none-kind = go b refl
    where
      go : (x : Bool) → b ≡ x → x ≡ false
      go true h = absurd (omega (arith, order-kind w m b o s t u none-whole none-missing h, z))
      go false h = refl

  none-own : o ≡ 0
  none-own = ⊎_elim (λ (e : o ≡ 0). e) (λ (ne : o ≢ 0). order-own w m b o s t u none-whole none-missing none-kind ne ∙ z) (same_or o 0)

  none-seventeenth : s ≡ false
  none-seventeenth = go s refl
    where
      go : (x : Bool) → s ≡ x → x ≡ false
      go true h = absurd (omega (arith, order-seventeenth w m b o s t u none-whole none-missing none-kind none-own h, z))
      go false h = refl

  none-room : first ((t gives bad_contents) ∷ (u gives area_short) ∷ []) ≡ 0
  none-room = order-room w m b o s t u none-whole none-missing none-kind none-own none-seventeenth ∙ z

none-long : (t u : Bool) → first ((t gives bad_contents) ∷ (u gives area_short) ∷ []) ≡ 0 → (t ≡ false) × (u ≡ false)
none-long true u z = absurd (omega (arith, z))
none-long false true z = absurd (omega (arith, z))
none-long false false z = (refl, refl)

module _ (bs : List ℕ) (room : ℕ) (e : Edit) (k : ℕ) (E : BookEdit bs room e k) (z : k ≡ 0) where
  abbrev gone : Bool
  gone = missing e (count_of bs)

  abbrev full : Bool
  full = seventeenth e (count_of bs)

  abbrev long : Bool
  long = ltb 60000 (size_after bs e)

  abbrev short : Bool
  short = ltb room (size_after bs e)

  none : order E.whole gone (bad_new (edition_of bs) e) E.own full long short ≡ 0
  none = sym E.is ∙ z

  pub passed : Passed bs room e
  passed =
      let w = none-whole E.whole gone (bad_new (edition_of bs) e) E.own full long short none in
      let m = none-missing E.whole gone (bad_new (edition_of bs) e) E.own full long short none in
      let b = none-kind E.whole gone (bad_new (edition_of bs) e) E.own full long short none in
      let o = none-own E.whole gone (bad_new (edition_of bs) e) E.own full long short none in
      let r = none-long long short (none-room E.whole gone (bad_new (edition_of bs) e) E.own full long short none) in record {
        whole = subst (BookNumber bs) w E.tested;
        there = m;
        kind = b;
        own = subst (OwnOf (edition_of bs) e) o (E.owned w m b);
        few = none-seventeenth E.whole gone (bad_new (edition_of bs) e) E.own full long short none;
        short = ltb-false 60000 (size_after bs e) r.0;
        fits = ltb-false room (size_after bs e) r.1;
      }

-- The number of an edit on each way through the code: by the truth of each test.
use mathlib.Core.Bool.{Bool, true, false, not}
use mathlib.Core.List.{List, [], ◌∷◌}
use mathlib.Core.Logic.{◌≢◌}
use mathlib.Core.Path.{◌≡◌, refl, ap, ◌∙◌}
use Prim.Native.Nat.{ℕ, ◌≤◌, ◌<◌}
use native.Mathlib.Omega.{arith}
use lib.Dec.{ltb}
use borrow.Author.Tests.{lt-ltb, le-ltb, eq-eqb, ne_eqb}
use Rattle.exact.specs.Refusal.{bad_contents, area_short, first, ◌gives◌}
use Rattle.contents.specs.Contents.{edition_of, count_of, good_kind}
use Rattle.book_bodies.specs.Number.{OwnNumber}
use Rattle.book.specs.Book.{BookNumber}
use Rattle.edit_numbers.specs.Volume.{Edit}
use Rattle.edit_numbers.specs.Number.{missing, bad_new, OwnOf, seventeenth, size_after, order, BookEdit}
use Rattle.edit_numbers.specs.Inner.Tested.{NewNumber, room_number}

-- ---- the order of the tests
module _ (w : ℕ) (m b : Bool) (o : ℕ) (s t u : Bool) where
  pub order-whole : w ≢ 0 → w ≡ order w m b o s t u
  order-whole ne = rw (ne_eqb w 0 ne)

  module _ (wz : w ≡ 0) where
    pub order-missing : m ≡ true → 14 ≡ order w m b o s t u
    order-missing h = rw (eq-eqb w 0 wz, h)

    module _ (mz : m ≡ false) where
      pub order-kind : b ≡ true → 10 ≡ order w m b o s t u
      order-kind h = rw (eq-eqb w 0 wz, mz, h)

      module _ (bz : b ≡ false) where
        pub order-own : o ≢ 0 → o ≡ order w m b o s t u
        order-own ne = rw (eq-eqb w 0 wz, mz, bz, ne_eqb o 0 ne)

        module _ (oz : o ≡ 0) where
          pub order-seventeenth : s ≡ true → 9 ≡ order w m b o s t u
          order-seventeenth h = rw (eq-eqb w 0 wz, mz, bz, eq-eqb o 0 oz, h)

          pub order-room : s ≡ false → first ((t gives bad_contents) ∷ (u gives area_short) ∷ []) ≡ order w m b o s t u
          order-room h = rw (eq-eqb w 0 wz, mz, bz, eq-eqb o 0 oz, h)

-- ---- an edit
module _ (bs : List ℕ) (room : ℕ) (e : Edit) where
  abbrev gone : Bool
  gone = missing e (count_of bs)

  abbrev full : Bool
  full = seventeenth e (count_of bs)

  abbrev long : Bool
  long = ltb 60000 (size_after bs e)

  abbrev short : Bool
  short = ltb room (size_after bs e)

  pub whole-refused : (k : ℕ) → BookNumber bs k → k ≢ 0 → BookEdit bs room e k
  whole-refused k B ne = record {
    whole = k;
    tested = B;
    own = 0;
    owned = λ q _ _. absurd (ne q);
    is = order-whole k gone (bad_new (edition_of bs) e) 0 full long short ne;
  }

  module _ (w : ℕ) (B : BookNumber bs w) (wz : w ≡ 0) where
    pub body-missing : gone ≡ true → BookEdit bs room e 14
    body-missing h = record {
      whole = w;
      tested = B;
      own = 0;
      owned = λ _ q _. absurd (let z : ◌≡◌ {A = ℕ} 0 1 = cc (h, q) in omega arith);
      is = order-missing w gone (bad_new (edition_of bs) e) 0 full long short wz h;
    }

    module _ (mz : gone ≡ false) where
      -- a new body is refused, by its kind or by its own number
      pub new-refused : (kind n : ℕ) (body : List ℕ) (k : ℕ) → bad_new (edition_of bs) e ≡ not (good_kind (edition_of bs) kind) → (OwnNumber (edition_of bs) kind n body k → OwnOf (edition_of bs) e k)
          → NewNumber (edition_of bs) kind n body k → k ≢ 0 → BookEdit bs room e k
      new-refused kind n body k bad own N ne = go (good_kind (edition_of bs) kind) refl
        where
          go : (t : Bool) → good_kind (edition_of bs) kind ≡ t → BookEdit bs room e k
          go true g = record {
            whole = w;
            tested = B;
            own = k;
            owned = λ _ _ _. own (N.own g);
            is = order-own w gone (bad_new (edition_of bs) e) k full long short wz mz (bad ∙ ap not g) ne;
          }
          go false g = record {
            whole = w;
            tested = B;
            own = 0;
            owned = λ _ _ q. absurd (let z : ◌≡◌ {A = ℕ} 0 1 = cc (q, bad ∙ ap not g) in omega arith);
            is = N.bad g ∙ order-kind w gone (bad_new (edition_of bs) e) 0 full long short wz mz (bad ∙ ap not g);
          }

      module _ (bz : bad_new (edition_of bs) e ≡ false) (o : ℕ) (O : OwnOf (edition_of bs) e o) (oz : o ≡ 0) where
        pub seventeenth-refused : full ≡ true → BookEdit bs room e 9
        seventeenth-refused h = record {
          whole = w;
          tested = B;
          own = o;
          owned = λ _ _ _. O;
          is = order-seventeenth w gone (bad_new (edition_of bs) e) o full long short wz mz bz oz h;
        }

        pub room-tested : full ≡ false → (k size : ℕ) → k ≡ room_number room size → size ≡ size_after bs e → BookEdit bs room e k
        room-tested h k size r q = record {
          whole = w;
          tested = B;
          own = o;
          owned = λ _ _ _. O;
          is = r ∙ ap (room_number room) q ∙ order-room w gone (bad_new (edition_of bs) e) o full long short wz mz bz oz h;
        }

-- ---- a new body that is not refused has a good kind
pub new-good : (ed kind n : ℕ) (body : List ℕ) (k : ℕ) → NewNumber ed kind n body k → k ≡ 0 → good_kind ed kind ≡ true
new-good ed kind n body k N z = go (good_kind ed kind) refl
  where
    go : (t : Bool) → good_kind ed kind ≡ t → t ≡ true
    go true g = refl
    go false g = absurd (omega (arith, N.bad g, z))

-- ---- room
module _ (room size : ℕ) where
  pub room-long : 60000 < size → 10 ≡ room_number room size
  room-long h = rw (lt-ltb 60000 size h)

  pub room-short : size ≤ 60000 → room < size → 13 ≡ room_number room size
  room-short h l = rw (le-ltb 60000 size h, lt-ltb room size l)

  pub room-none : size ≤ 60000 → size ≤ room → 0 ≡ room_number room size
  room-none h l = rw (le-ltb 60000 size h, le-ltb room size l)

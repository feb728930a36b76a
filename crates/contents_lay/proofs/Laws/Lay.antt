-- The number that refuses lists to lay: what it is by the truth of each test, and what the number 0 says of the lists.
use mathlib.Core.Path.{◌≡◌, refl}
use mathlib.Core.Bool.{Bool, true, false, not, ◌||◌}
use mathlib.Core.List.{List}
use Prim.Native.Nat.{ℕ, ◌+◌, ◌*◌, ◌≤◌, ◌<◌}
use native.Mathlib.Omega.{arith}
use lib.Dec.{eqb, ltb}
use lib.ListN.{length}
use borrow.Author.Tests.{lt-ltb, le-ltb, eq-eqb, eqb-true, ltb-true, ltb-false, not-false}
use Rattle.editions.specs.Edition.{good_edition}
use Rattle.contents.specs.Contents.{any_below}
use Rattle.contents_lay.specs.Lay.{laid_start, too_many, bad_kind, bad_lists, lay_number}
use Rattle.contents.proofs.Laws.Some.{or-no-left, or-no-right}

module _ (ks ws ls : List ℕ) where
  -- none of the lists is of more than 16
  pub few : too_many ks ws ls ≡ false → (length ks ≤ 16) × (length ws ≤ 16) × (length ls ≤ 16)
  unfolding too_many
  few e =
      let k = ltb 16 (length ks) in
      let w = ltb 16 (length ws) in
      let l = ltb 16 (length ls) in
      (ltb-false 16 (length ks) (or-no-left k w (or-no-left (k || w) l e)), ltb-false 16 (length ws) (or-no-right k w (or-no-left (k || w) l e)), ltb-false 16 (length ls) (or-no-right (k || w) l e))

  pub many-none : length ks ≤ 16 → length ws ≤ 16 → length ls ≤ 16 → too_many ks ws ls ≡ false
  unfolding too_many
  many-none a b c = rw (le-ltb 16 (length ks) a, le-ltb 16 (length ws) b, le-ltb 16 (length ls) c)

  pub bad-none : length ws ≡ length ks → length ls ≡ length ks → (ed : ℕ) → any_below (length ks) (bad_kind ed ks) ≡ false → laid_start ls (length ls) ≤ 60000 → bad_lists ed ks ws ls ≡ false
  unfolding bad_lists
  bad-none a b ed s h = rw (eq-eqb (length ws) (length ks) a, eq-eqb (length ls) (length ks) b, s, le-ltb 60000 (laid_start ls (length ls)) h)

  module _ (room ed : ℕ) where
    pub lay-edition : good_edition ed ≡ false → 9 ≡ lay_number room ed ks ws ls
    unfolding lay_number
    lay-edition h = rw h

    pub lay-nine : good_edition ed ≡ true → too_many ks ws ls ≡ true → 9 ≡ lay_number room ed ks ws ls
    unfolding lay_number
    lay-nine g h = rw (g, h)

    pub lay-ten : good_edition ed ≡ true → too_many ks ws ls ≡ false → bad_lists ed ks ws ls ≡ true → 10 ≡ lay_number room ed ks ws ls
    unfolding lay_number
    lay-ten g a h = rw (g, a, h)

    pub lay-thirteen : good_edition ed ≡ true → too_many ks ws ls ≡ false → bad_lists ed ks ws ls ≡ false → room < 4 + 8 * length ks → 13 ≡ lay_number room ed ks ws ls
    unfolding lay_number
    lay-thirteen g a b h = rw (g, a, b, lt-ltb room (4 + 8 * length ks) h)

    pub lay-zero : good_edition ed ≡ true → too_many ks ws ls ≡ false → bad_lists ed ks ws ls ≡ false → 4 + 8 * length ks ≤ room → 0 ≡ lay_number room ed ks ws ls
    unfolding lay_number
    lay-zero g a b h = rw (g, a, b, le-ltb room (4 + 8 * length ks) h)

-- ---- lists that are not refused
pub record Lists (room ed : ℕ) (ks ws ls : List ℕ) : Type 0 where
  pub edition : good_edition ed ≡ true
  pub few : length ks ≤ 16
  pub widths : length ws ≡ length ks
  pub lengths : length ls ≡ length ks
  pub kinds : any_below (length ks) (bad_kind ed ks) ≡ false
  pub size : laid_start ls (length ls) ≤ 60000
  pub area : 4 + 8 * length ks ≤ room

found : (ks ws ls : List ℕ) (room ed : ℕ) → good_edition ed ≡ true → too_many ks ws ls ≡ false → bad_lists ed ks ws ls ≡ false → ltb room (4 + 8 * length ks) ≡ false → Lists room ed ks ws ls
unfolding too_many bad_lists
found ks ws ls room ed g a b r =
    let many = ltb 16 (length ks) in
    let wide = ltb 16 (length ws) in
    let w = not (eqb (length ws) (length ks)) in
    let l = not (eqb (length ls) (length ks)) in
    let k = any_below (length ks) (bad_kind ed ks) in
    let big = ltb 60000 (laid_start ls (length ls)) in
    let equal = or-no-left (w || l) k (or-no-left (w || l || k) big b) in record {
      edition = g;
      few = ltb-false 16 (length ks) (or-no-left many wide (or-no-left (many || wide) (ltb 16 (length ls)) a));
      widths = eqb-true (length ws) (length ks) (not-false (eqb (length ws) (length ks)) (or-no-left w l equal));
      lengths = eqb-true (length ls) (length ks) (not-false (eqb (length ls) (length ks)) (or-no-right w l equal));
      kinds = or-no-right (w || l) k (or-no-left (w || l || k) big b);
      size = ltb-false 60000 (laid_start ls (length ls)) (or-no-right (w || l || k) big b);
      area = ltb-false room (4 + 8 * length ks) r;
    }

pub lay-lists : (room ed : ℕ) (ks ws ls : List ℕ) (n : ℕ) → n ≡ lay_number room ed ks ws ls → n ≡ 0 → Lists room ed ks ws ls
lay-lists room ed ks ws ls n is z = edition (good_edition ed) refl
  where
    not-number : (m : ℕ) → 0 < m → m ≡ lay_number room ed ks ws ls → ⊥
    not-number m p e = omega arith

    thirteen : good_edition ed ≡ true → too_many ks ws ls ≡ false → bad_lists ed ks ws ls ≡ false → (t : Bool) → ltb room (4 + 8 * length ks) ≡ t → t ≡ false
    thirteen g a b true e = absurd (not-number 13 (omega arith) (lay-thirteen ks ws ls room ed g a b (ltb-true room (4 + 8 * length ks) e)))
    thirteen g a b false e = refl

    ten : good_edition ed ≡ true → too_many ks ws ls ≡ false → (t : Bool) → bad_lists ed ks ws ls ≡ t → Lists room ed ks ws ls
    ten g a true e = absurd (not-number 10 (omega arith) (lay-ten ks ws ls room ed g a e))
    ten g a false e = found ks ws ls room ed g a e (thirteen g a e (ltb room (4 + 8 * length ks)) refl)

    nine : good_edition ed ≡ true → (t : Bool) → too_many ks ws ls ≡ t → Lists room ed ks ws ls
    nine g true e = absurd (not-number 9 (omega arith) (lay-nine ks ws ls room ed g e))
    nine g false e = ten g e (bad_lists ed ks ws ls) refl

    edition : (t : Bool) → good_edition ed ≡ t → Lists room ed ks ws ls
    edition false e = absurd (not-number 9 (omega arith) (lay-edition ks ws ls room ed e))
    edition true e = nine e (too_many ks ws ls) refl

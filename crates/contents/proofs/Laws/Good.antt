-- What good contents say of every body: its kind, where it starts and ends, and that the bodies fill the book. From the number 0, test by test.
use mathlib.Core.Path.{◌≡◌, refl, sym, ap, ◌∙◌, subst}
use mathlib.Core.Bool.{Bool, true, false, not, ◌||◌}
use mathlib.Core.List.{List}
use mathlib.Core.Logic.{◌⊎◌}
use Prim.Native.Nat.{ℕ, suc, ◌+◌, ◌*◌, ◌≤◌, ◌<◌}
use native.Mathlib.Omega.{arith}
use native.Mathlib.Numerals.{add-one}
use lib.Dec.{eqb, ltb}
use lib.ListN.{length}
use borrow.Author.Tests.{eqb-true, ltb-false, not-false}
use Rattle.contents.specs.Contents.{Entry, edition_of, count_of, kind_of, length_of, start_of, entry_of, body_start, any_below, header_fault, good_kind, entry_fault, contents_fault, contents_number}
use Rattle.contents.proofs.Laws.Some.{or-no-left, or-no-right, some-none}
use Rattle.contents.proofs.Laws.Entry.{fault-none, kind-cases}
use Rattle.contents.proofs.Laws.Header.{header-small}
use Rattle.contents.proofs.Laws.Test.{start-next, number-nine, number-ten}

-- ---- where bodies start
start-suc : (bs : List ℕ) (j : ℕ) → body_start bs (suc j) ≡ body_start bs j + length_of bs j
start-suc bs j = ap (body_start bs) (sym (add-one j)) ∙ start-next bs j

start-least : (bs : List ℕ) (j : ℕ) → 4 + 8 * count_of bs ≤ body_start bs j
unfolding body_start
start-least bs j = omega arith

-- what entry e says of body j
pub record Body (bs : List ℕ) (j : ℕ) (e : Entry) : Type 0 where
  pub kind : (e.kind ≡ 1) ⊎ (e.kind ≡ 2) ⊎ ((edition_of bs ≡ 2) × (e.kind ≡ 3))
  pub start : e.start ≡ body_start bs j
  pub behind : 4 + 8 * count_of bs ≤ e.start
  pub within : e.start + e.length ≤ length bs
  -- the next body starts where this one ends, and the last ends the book
  pub next : suc j < count_of bs → start_of bs (suc j) ≡ e.start + e.length
  pub last : suc j ≡ count_of bs → e.start + e.length ≡ length bs

-- what good contents are
pub record Good (bs : List ℕ) : Type 0 where
  pub long : 4 + 8 * count_of bs ≤ length bs
  pub short : length bs ≤ 60000
  pub count : count_of bs ≤ 16
  pub body : (j : ℕ) → j < count_of bs → (e : Entry) → e ≡ entry_of bs j → Body bs j e
  pub last : body_start bs (count_of bs) ≡ length bs

module _ (bs : List ℕ) (z : contents_number bs ≡ 0) where
  good-header : header_fault bs ≡ false
  good-header = go (header_fault bs) refl
    where
      go : (t : Bool) → header_fault bs ≡ t → t ≡ false
      go true e = absurd (let n : 9 ≡ contents_number bs = number-nine bs e in omega arith)
      go false e = refl

  good-contents : contents_fault bs ≡ false
  good-contents = go (contents_fault bs) refl
    where
      go : (t : Bool) → contents_fault bs ≡ t → t ≡ false
      go true e = absurd (let n : 10 ≡ contents_number bs = number-ten bs good-header e in omega arith)
      go false e = refl

  unrefused : any_below (count_of bs) (entry_fault bs) ≡ false
  unfolding contents_fault
  unrefused =
      let short = ltb (length bs) (4 + 8 * count_of bs) in
      let one = any_below (count_of bs) (entry_fault bs) in
      or-no-right short one (or-no-left (short || one) (not (eqb (body_start bs (count_of bs)) (length bs))) good-contents)

  clear : (j : ℕ) → j < count_of bs → (good_kind (edition_of bs) (kind_of bs j) ≡ true) × (start_of bs j ≡ body_start bs j) × (start_of bs j + length_of bs j ≤ length bs)
  clear j h = fault-none (edition_of bs) (entry_of bs j) (body_start bs j) (length bs) (some-none (count_of bs) j (entry_fault bs) unrefused h)

  good-last : body_start bs (count_of bs) ≡ length bs
  unfolding contents_fault
  good-last =
      let some-fault = ltb (length bs) (4 + 8 * count_of bs) || any_below (count_of bs) (entry_fault bs) in
      let end = eqb (body_start bs (count_of bs)) (length bs) in
      eqb-true (body_start bs (count_of bs)) (length bs) (not-false end (or-no-right some-fault (not end) good-contents))

  good-long : 4 + 8 * count_of bs ≤ length bs
  unfolding contents_fault
  good-long =
      let short = ltb (length bs) (4 + 8 * count_of bs) in
      let one = any_below (count_of bs) (entry_fault bs) in
      let end = eqb (body_start bs (count_of bs)) (length bs) in
      ltb-false (length bs) (4 + 8 * count_of bs) (or-no-left short one (or-no-left (short || one) (not end) good-contents))

  stated : (j : ℕ) → j < count_of bs → Body bs j (entry_of bs j)
  stated j h =
      let f = clear j h in
      let next : body_start bs (suc j) ≡ start_of bs j + length_of bs j = start-suc bs j ∙ ap (λ (x : ℕ). x + length_of bs j) (sym f.1) in record {
        kind = kind-cases (edition_of bs) (kind_of bs j) f.0;
        start = f.1;
        behind = omega (arith, f.1, start-least bs j);
        within = f.2;
        next = λ l. (clear (suc j) l).1 ∙ next;
        last = λ q. sym next ∙ ap (body_start bs) q ∙ good-last;
      }

  pub good : Good bs
  good =
      let small = header-small bs good-header in record {
        long = good-long;
        short = small.1;
        count = small.2;
        body = λ j h e is. subst (λ (x : Entry). Body bs j x) (sym is) (stated j h);
        last = good-last;
      }

-- The number of a book's contents on each way through the code, and the loop over the entries: by the truth of each test.
use mathlib.Core.Path.{◌≡◌, refl, sym, ap, ap₂, ◌∙◌}
use mathlib.Core.Bool.{Bool, true, false, not, ◌||◌}
use mathlib.Core.List.{List}
use Prim.Native.Nat.{ℕ, ◌+◌, ◌*◌, ◌≤◌, ◌<◌}
use native.Mathlib.Numerals.{add-one}
use native.Mathlib.Omega.{arith}
use lib.Dec.{eqb, ltb}
use lib.ListN.{length}
use borrow.Author.Tests.{lt-ltb, le-ltb}
use Rattle.exact.specs.Sum.{total}
use Rattle.contents.specs.Contents.{Entry, edition_of, count_of, length_of, entry_of, body_start, any_below, header_fault, fault_at, entry_fault, contents_fault, contents_number}
use Rattle.contents.proofs.Laws.Some.{some-here}

-- ---- where bodies start
pub start-zero : (bs : List ℕ) → 4 + 8 * count_of bs ≡ body_start bs 0
unfolding body_start total
start-zero bs = omega arith

pub start-next : (bs : List ℕ) (j : ℕ) → body_start bs (j + 1) ≡ body_start bs j + length_of bs j
unfolding body_start total
start-next bs j = ap (body_start bs) (add-one j) ∙ omega arith

-- ---- the number
or-mid : (a b c : Bool) → b ≡ true → (a || b || c) ≡ true
or-mid true b c e = refl
or-mid false b c e = ap (λ (t : Bool). t || c) e

module _ (bs : List ℕ) where
  pub number-nine : header_fault bs ≡ true → 9 ≡ contents_number bs
  unfolding contents_number
  number-nine h = rw h

  module _ (a : header_fault bs ≡ false) where
    pub number-ten : contents_fault bs ≡ true → 10 ≡ contents_number bs
    unfolding contents_number
    number-ten h = rw (a, h)

    pub number-none : contents_fault bs ≡ false → 0 ≡ contents_number bs
    unfolding contents_number
    number-none h = rw (a, h)

  pub contents-short : length bs < 4 + 8 * count_of bs → contents_fault bs ≡ true
  unfolding contents_fault
  contents-short h = rw (lt-ltb (length bs) (4 + 8 * count_of bs) h)

  pub contents-entry : (j : ℕ) → j < count_of bs → entry_fault bs j ≡ true → contents_fault bs ≡ true
  unfolding contents_fault
  contents-entry j h e =
      or-mid (ltb (length bs) (4 + 8 * count_of bs)) (any_below (count_of bs) (entry_fault bs)) (not (eqb (body_start bs (count_of bs)) (length bs)))
      (some-here (count_of bs) j (entry_fault bs) h e)

  pub contents-last : (t : Bool) → 4 + 8 * count_of bs ≤ length bs → any_below (count_of bs) (entry_fault bs) ≡ false → eqb (body_start bs (count_of bs)) (length bs) ≡ t → contents_fault bs ≡ not t
  unfolding contents_fault
  contents-last t h s e = rw (le-ltb (length bs) (4 + 8 * count_of bs) h, s, e)

-- ---- a turn of the loop over the entries: entry j is not refused
module _ (bs : List ℕ) (j at : ℕ) (e : Entry) (is : e ≡ entry_of bs j) (from : at ≡ body_start bs j) where
  pub turn-fault : (ed : ℕ) → ed ≡ edition_of bs → (t : Bool) → t ≡ fault_at ed e at (length bs) → entry_fault bs j ≡ t
  turn-fault ed z t h = sym (h ∙ ap (λ (x : ℕ). fault_at x e at (length bs)) z ∙ ap₂ (λ (x : Entry) (y : ℕ). fault_at (edition_of bs) x y (length bs)) is from)

  pub turn-next : at + e.length ≡ body_start bs (j + 1)
  turn-next = ap₂ (λ (y : ℕ) (x : Entry). y + x.length) from is ∙ sym (start-next bs j)

-- after the loop: no entry is refused, and the last end decides
pub test-ends : (bs : List ℕ) (n at j : ℕ) → n ≡ count_of bs → 4 + 8 * n ≤ length bs → j ≤ n → n ≤ j → at ≡ body_start bs j → any_below j (entry_fault bs) ≡ false
    → contents_fault bs ≡ not (eqb at (length bs))
test-ends bs n at j c h l m e s =
    let q : j ≡ count_of bs = omega arith in
    contents-last bs (eqb at (length bs)) (omega arith) (ap (λ (k : ℕ). any_below k (entry_fault bs)) (sym q) ∙ s)
    (ap (λ (k : ℕ). eqb k (length bs)) (sym (e ∙ ap (body_start bs) q)))

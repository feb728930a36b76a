-- What the bodies are after each edit of a good book, as three parts, and how many bytes the book has: from the segments of the bodies that stay.
use mathlib.Core.Bool.{Bool, cond}
use mathlib.Core.List.{List, [], ◌++◌, append_assoc, append-nil}
use mathlib.Core.Path.{◌≡◌, refl, sym, ap, ap₂, ◌∙◌}
use Prim.Native.Nat.{ℕ, suc, ◌+◌, ◌-◌, ◌*◌, ◌≤◌, ◌<◌}
use native.Mathlib.Omega.{arith}
use lib.ListN.{length, take, drop, length-append, length-drop}
use lib.Seq.{length-take-le}
use borrow.Author.Tests.{lt-ltb, le-ltb, eq-eqb, ne_eqb}
use Rattle.fields.specs.Listed.{listed}
use Rattle.fields.proofs.Laws.Listed.{length-listed}
use Rattle.contents.specs.Contents.{count_of, body_start, contents_number}
use Rattle.contents.proofs.Laws.Good.{good}
use Rattle.contents_lay.specs.Lay.{laid_bytes}
use Rattle.contents_lay.proofs.Laws.Laid.{length-laid}
use Rattle.body_fields.specs.Fields.{joined}
use Rattle.book.specs.Book.{bytes_of}
use Rattle.theorem_round_trip.specs.Book.{laid_book}
use Rattle.body_fields.proofs.Laws.Segment.{segment}
use Rattle.edit_numbers.specs.Volume.{Volume, remove, replace, add, volume_of, closed_up, skip, swapped, edited}
use Rattle.edit_numbers.specs.Inner.Parts.{Parts}
use Rattle.edit_numbers.proofs.Laws.Run.{start-suc, start_up, run, run-first}

-- ---- a body's place, by the tests of the definitions
pub skip_below : (j i : ℕ) → i < j → skip j i ≡ i
skip_below j i h = ap (λ (t : Bool). cond t i (suc i)) (lt-ltb i j h)

pub skip-from : (j i : ℕ) → j ≤ i → skip j i ≡ suc i
skip-from j i h = ap (λ (t : Bool). cond t i (suc i)) (le-ltb i j h)

pub swapped_at : {A : Type 0} (j : ℕ) (a : A) (f : ℕ → A) (i : ℕ) → i ≡ j → swapped j a f i ≡ a
swapped_at j a f i e = ap (λ (t : Bool). cond t a (f i)) (eq-eqb i j e)

pub swapped_off : {A : Type 0} (j : ℕ) (a : A) (f : ℕ → A) (i : ℕ) → (i ≡ j → ⊥) → swapped j a f i ≡ f i
swapped_off j a f i ne = ap (λ (t : Bool). cond t a (f i)) (ne_eqb i j ne)

-- ---- the bytes of a book from its bodies
abbrev pub kinds_of : Volume → List ℕ
kinds_of v = listed v.count v.kind

abbrev pub widths_of : Volume → List ℕ
widths_of v = listed v.count v.width

abbrev pub lengths_of : Volume → List ℕ
lengths_of v = listed v.count (λ i. length (v.body i))

pub closed_is : (v : Volume) → closed_up v ≡ laid_bytes v.edition (kinds_of v) (widths_of v) (lengths_of v) ++ joined v.count v.body
unfolding closed_up laid_book
closed_is v =
    ap (λ (n : ℕ). laid_bytes v.edition (kinds_of v) (widths_of v) (lengths_of v) ++ joined n v.body) (length-listed v.count v.kind)

pub closed-length : (v : Volume) → length (closed_up v) ≡ 4 + 8 * v.count + length (joined v.count v.body)
closed-length v =
    ap length (closed_is v)
    ∙ length-append (laid_bytes v.edition (kinds_of v) (widths_of v) (lengths_of v)) (joined v.count v.body)
    ∙ omega (arith, length-laid v.edition (kinds_of v) (widths_of v) (lengths_of v), length-listed v.count v.kind)

module _ (bs : List ℕ) (z : contents_number bs ≡ 0) where
  -- a segment that lies within the book is as long as it says
  pub segment-long : (at k : ℕ) → at + k ≤ length bs → length (segment bs at k) ≡ k
  segment-long at k h = length-take-le k (drop at bs) (omega (arith, length-drop at bs))

  module _ (v : Volume) (from to : ℕ) (new : List ℕ) (P : Parts bs v from to new) where
    pub parts-length : length (closed_up v) ≡ 4 + 8 * v.count + (from - (4 + 8 * count_of bs)) + length new + (length bs - to)
    parts-length =
        let a = segment bs (4 + 8 * count_of bs) (from - (4 + 8 * count_of bs)) in
        let c = segment bs to (length bs - to) in
        closed-length v
        ∙ ap (λ (l : List ℕ). 4 + 8 * v.count + length l) P.bodies
        ∙ omega (
          arith,
          length-append a (new ++ c),
          length-append new c,
          segment-long (4 + 8 * count_of bs) (from - (4 + 8 * count_of bs)) (omega (arith, P.first, P.gone, P.last)),
          segment-long to (length bs - to) (omega (arith, P.last)),
        )

  -- where a body starts and ends
  start-least : (j : ℕ) → 4 + 8 * count_of bs ≤ body_start bs j
  unfolding body_start
  start-least j = omega arith

  starts : (j : ℕ) → j ≤ count_of bs → (4 + 8 * count_of bs ≤ body_start bs j) × (body_start bs j ≤ length bs)
  starts j h =
      let d = count_of bs - j in
      let e : j + d ≡ count_of bs = omega arith in
      (start-least j, omega (arith, start_up bs j d, ap (body_start bs) e, (good bs z).last))

  module _ (j : ℕ) (h : j < count_of bs) where
    -- the bodies behind body j, behind p others
    behind : (g : ℕ → List ℕ) (p c : ℕ) → p + (count_of bs - suc j) ≡ c → ((i : ℕ) → p ≤ i → i < c → g i ≡ bytes_of bs (suc j + (i - p)))
        → joined c g ≡ joined p g ++ segment bs (body_start bs (suc j)) (length bs - body_start bs (suc j))
    behind g p c e f =
        let d = count_of bs - suc j in
        let end : body_start bs (suc j + d) ≡ length bs = ap (body_start bs) (omega arith) ∙ (good bs z).last in
        ap (λ (k : ℕ). joined k g) (sym e)
        ∙ run bs z g p (suc j) d (omega arith) (λ i l. f (p + i) (omega arith) (omega arith) ∙ (let q : suc j + (p + i - p) ≡ suc j + i = omega arith in ap (bytes_of bs) q))
        ∙ ap (λ (k : ℕ). joined p g ++ segment bs (body_start bs (suc j)) (k - body_start bs (suc j))) end

    pub parts-removed : Parts bs (edited (remove j) (volume_of bs)) (body_start bs j) (body_start bs (suc j)) []
    parts-removed = record {
      first = (starts j (omega arith)).0;
      gone = omega (arith, start-suc bs j);
      last = (starts (suc j) (omega arith)).1;
      bodies =
          behind (λ i. bytes_of bs (skip j i)) j (count_of bs - 1) (omega arith) (λ i l b. ap (bytes_of bs) (skip-from j i l ∙ omega arith))
          ∙ ap (λ (l : List ℕ). l ++ segment bs (body_start bs (suc j)) (length bs - body_start bs (suc j)))
          (run-first bs z (λ i. bytes_of bs (skip j i)) j (omega arith) (λ i l. ap (bytes_of bs) (skip_below j i l)));
    }

    pub parts-replaced : (kind width : ℕ) (new : List ℕ) → Parts bs (edited (replace j kind width new) (volume_of bs)) (body_start bs j) (body_start bs (suc j)) new
    unfolding joined
    parts-replaced kind width new =
        let g = swapped j new (bytes_of bs) in
        let rest = segment bs (body_start bs (suc j)) (length bs - body_start bs (suc j)) in
        let head = segment bs (4 + 8 * count_of bs) (body_start bs j - (4 + 8 * count_of bs)) in record {
          first = (starts j (omega arith)).0;
          gone = omega (arith, start-suc bs j);
          last = (starts (suc j) (omega arith)).1;
          bodies =
              behind g (suc j) (count_of bs) (omega arith) (λ i l b. swapped_off j new (bytes_of bs) i (λ q. omega arith) ∙ ap (bytes_of bs) (omega arith))
              ∙ ap (λ (l : List ℕ). l ++ rest) (ap₂ ◌++◌ (run-first bs z g j (omega arith) (λ i l. swapped_off j new (bytes_of bs) i (λ q. omega arith))) (swapped_at j new (bytes_of bs) j refl))
              ∙ append_assoc head new rest;
        }

  pub parts_added : (kind width : ℕ) (new : List ℕ) → Parts bs (edited (add kind width new) (volume_of bs)) (length bs) (length bs) new
  unfolding joined
  parts_added kind width new =
      let g = swapped (count_of bs) new (bytes_of bs) in
      let none : length bs - length bs ≡ 0 = omega arith in
      let end : body_start bs (count_of bs) - (4 + 8 * count_of bs) ≡ length bs - (4 + 8 * count_of bs) = ap (λ (k : ℕ). k - (4 + 8 * count_of bs)) (good bs z).last in record {
        first = (good bs z).long;
        gone = omega arith;
        last = omega arith;
        bodies =
            ap₂ ◌++◌ (run-first bs z g (count_of bs) (omega arith) (λ i l. swapped_off (count_of bs) new (bytes_of bs) i (λ q. omega arith)) ∙ ap (segment bs (4 + 8 * count_of bs)) end)
            (swapped_at (count_of bs) new (bytes_of bs) (count_of bs) refl ∙ sym (append-nil new) ∙ ap (λ (k : ℕ). new ++ take k (drop (length bs) bs)) (sym none));
      }

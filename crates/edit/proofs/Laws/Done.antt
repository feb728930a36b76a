-- An edit that is not refused can be carried out as planned, and what it leaves is the area closed up: part by part.
use mathlib.Core.List.{List, ◌++◌, append_assoc}
use mathlib.Core.Logic.{◌≢◌, ◌⊎◌, inl, inr, ⊎_elim}
use mathlib.Core.Path.{◌≡◌, refl, sym, ap, ap₂, ◌∙◌, subst}
use Prim.Native.Nat.{ℕ, ◌+◌, ◌-◌, ◌≤◌, ◌<◌}
use native.Mathlib.Omega.{arith}
use lib.ListN.{length, take, drop, replicate, length-drop, take-append-drop}
use lib.Seq.{length-take-le, drop-append-le, take-append-le}
use Rattle.editions.specs.Edition.{good_edition}
use Rattle.contents.specs.Contents.{count_of, good_kind, contents_number}
use Rattle.contents_lay.specs.Lay.{laid_bytes, lay_number}
use Rattle.body_fields.specs.Fields.{joined}
use Rattle.book.proofs.Laws.Number.{contents-good}
use Rattle.edit_moves.specs.Inner.Spliced.{Spliceable}
use Rattle.edit_numbers.specs.Volume.{Volume, Edit, remove, replace, add, volume_of, edited, closed_up}
use Rattle.edit_numbers.specs.Number.{BookEdit}
use Rattle.edit_numbers.specs.Inner.Passed.{Passed}
use Rattle.edit_numbers.proofs.Laws.Parts.{kinds_of, widths_of, lengths_of, closed_is, parts-length}
use Rattle.edit_plans.specs.declared.Plan.{Plan}
use Rattle.edit_plans.specs.Inner.Plan.{Planned}
use Rattle.edit.specs.Edit.{Edited, refusal, new_length, closed, Edits}
use Rattle.edit.specs.Inner.Settled as at
use Rattle.edit.specs.Inner.Settled.{begins, ends, Settleable, Settled}
use Rattle.edit.proofs.Laws.Accepted.{edition-good}
use Rattle.edit.proofs.Laws.Bodies.{fine-edited}
use Rattle.edit.proofs.Laws.Lay.{lay-volume}

-- an edit keeps the edition
pub same-edition : (e : Edit) (v : Volume) → (edited e v).edition ≡ v.edition
same-edition (remove j) v = refl
same-edition (replace j kind width body) v = refl
same-edition (add kind width body) v = refl

-- a part that lies within the first n
within : (xs : List ℕ) (n at k : ℕ) → n ≤ length xs → at + k ≤ n → take k (drop at (take n xs)) ≡ take k (drop at xs)
within xs n at k h l =
    sym
    (ap (λ (q : List ℕ). take k (drop at q)) (sym (take-append-drop n xs))
    ∙ ap (take k) (drop-append-le at (take n xs) (drop n xs) (omega (arith, long)))
    ∙ take-append-le k (drop at (take n xs)) (drop n xs) (omega (arith, long, length-drop at (take n xs))))
  where
    long : length (take n xs) ≡ n
    long = length-take-le n xs h

module _ (xs : List ℕ) (n : ℕ) (h : n ≤ length xs) (e : Edit) (P : Passed (take n xs) (length xs) e) (p : Plan) (new : List ℕ) (Q : Planned (take n xs) (edited e (volume_of (take n xs))) new p) where
  abbrev bs : List ℕ
  bs = take n xs

  abbrev v : Volume
  v = edited e (volume_of bs)

  long : length bs ≡ n
  long = length-take-le n xs h

  good : contents_number bs ≡ 0
  good = contents-good bs 0 P.whole refl

  size : length (closed_up v) ≡ ends n p new
  size = omega (arith, parts-length bs good v p.from p.to new Q.parts, Q.held.counted, Q.old, long)

  spliceable : Spliceable xs n p.old (begins p) p.from p.to new
  spliceable = record {
    first = omega (arith, Q.old, Q.parts.first);
    gone = Q.parts.gone;
    last = omega (arith, Q.parts.last, long);
    area = h;
    room = omega (arith, size, P.fits);
    apart = ⊎_elim
        (λ (l : v.count ≤ count_of bs). inl (omega (arith, l, Q.held.counted, Q.old, Q.parts.first, Q.parts.gone)))
        (λ (l : length bs ≤ p.to). inr (omega (arith, l, long))) Q.apart;
  }

  -- the lists of the plan are those of the book after the edit
  same_lists : {A : Type 0} (f : ℕ → List ℕ → List ℕ → List ℕ → A) → f p.edition (at.kinds_of p) (at.widths_of p) (at.lengths_of p) ≡ f v.edition (kinds_of v) (widths_of v) (lengths_of v)
  same_lists f =
      ap (λ (x : ℕ). f x (at.kinds_of p) (at.widths_of p) (at.lengths_of p)) Q.edition
      ∙ ap (λ (x : List ℕ). f v.edition x (at.widths_of p) (at.lengths_of p)) Q.held.kinds
      ∙ ap₂ (λ (x y : List ℕ). f v.edition (kinds_of v) x y) Q.held.widths Q.held.lengths

  pub settleable : Settleable xs n p new
  settleable = record {
    few = omega (arith, Q.held.counted, Q.held.few);
    long = Q.held.long;
    splice = spliceable;
    lay = same_lists (lay_number (length xs))
        ∙ lay-volume v (length xs) (ap good_edition (same-edition e (volume_of bs)) ∙ edition-good bs good) Q.held.few (λ i l. ap (λ (d : ℕ). good_kind d (v.kind i)) (same-edition e (volume_of bs)) ∙ (fine-edited bs (length xs) e P i l).good) P.short (omega (arith, size, P.fits, Q.held.counted));
  }

  -- ---- what is left
  abbrev ahead : List ℕ
  ahead = take (p.from - p.old) (drop p.old xs)

  abbrev rest : List ℕ
  rest = take (n - p.to) (drop p.to xs)

  bodies : joined v.count v.body ≡ ahead ++ (new ++ rest)
  bodies =
      Q.parts.bodies
      ∙ ap₂ (λ (x y : List ℕ). x ++ (new ++ y))
      (ap (λ (k : ℕ). take (p.from - k) (drop k bs)) (sym Q.old) ∙ within xs n p.old (p.from - p.old) h (omega (arith, spliceable.first, spliceable.gone, spliceable.last)))
      (ap (λ (k : ℕ). take (k - p.to) (drop p.to bs)) long ∙ within xs n p.to (n - p.to) h (omega (arith, spliceable.last)))

  -- four lists one behind the other
  behind : (a b c d t : List ℕ) → a ++ (b ++ (c ++ (d ++ t))) ≡ (a ++ (b ++ (c ++ d))) ++ t
  behind a b c d t =
      sym
      (append_assoc a (b ++ (c ++ d)) t
      ∙ ap (λ (l : List ℕ). a ++ l) (append_assoc b (c ++ d) t ∙ ap (λ (l : List ℕ). b ++ l) (append_assoc c d t)))

  module _ (r : Edited) (ys : List ℕ) (S : Settled xs n p new r ys) where
    area : ys ≡ closed xs n (closed_up v)
    area =
        S.area
        ∙ ap₂ (λ (a : List ℕ) (k : ℕ). a ++ (ahead ++ (new ++ (rest ++ (replicate (n - k) 0 ++ drop (k + (n - k)) xs))))) (same_lists laid_bytes) (sym size)
        ∙ behind (laid_bytes v.edition (kinds_of v) (widths_of v) (lengths_of v)) ahead new rest (replicate (n - length (closed_up v)) 0 ++ drop (length (closed_up v) + (n - length (closed_up v))) xs)
        ∙ ap (λ (l : List ℕ). l ++ (replicate (n - length (closed_up v)) 0 ++ drop (length (closed_up v) + (n - length (closed_up v))) xs))
        (ap (λ (l : List ℕ). laid_bytes v.edition (kinds_of v) (widths_of v) (lengths_of v) ++ l) (sym bodies) ∙ sym (closed_is v))

    answer : r ≡ new_length (length (closed_up v))
    answer = S.answer ∙ ap new_length (sym size)

    pub edits-done : BookEdit bs (length xs) e 0 → Edits xs n e r ys
    edits-done E =
        let z : r.refusal ≡ 0 = ap (λ (x : Edited). x.refusal) answer in record {
          number = record { beyond = λ l. absurd (omega (arith, h, l)); within = λ _. subst (BookEdit bs (length xs) e) (sym z) E };
          refused = λ ne. absurd (ne z);
          done = λ _. (answer, area);
        }

-- ---- refused, with no byte changed
module _ (xs : List ℕ) (n : ℕ) (e : Edit) (r : Edited) where
  pub edits-beyond : length xs < n → r ≡ refusal 13 → Edits xs n e r xs
  edits-beyond h is =
      let k : r.refusal ≡ 13 = ap (λ (x : Edited). x.refusal) is in record {
        number = record { beyond = λ _. k; within = λ l. absurd (omega (arith, h, l)) };
        refused = λ _. (is ∙ ap refusal (sym k), refl);
        done = λ z. absurd (omega (arith, k, z));
      }

  pub edits-refused : n ≤ length xs → (k : ℕ) → BookEdit (take n xs) (length xs) e k → k ≢ 0 → r ≡ refusal k → Edits xs n e r xs
  edits-refused h k E ne is =
      let q : r.refusal ≡ k = ap (λ (x : Edited). x.refusal) is in record {
        number = record { beyond = λ l. absurd (omega (arith, h, l)); within = λ _. subst (BookEdit (take n xs) (length xs) e) (sym q) E };
        refused = λ _. (is ∙ ap refusal (sym q), refl);
        done = λ z. absurd (ne (sym q ∙ z));
      }

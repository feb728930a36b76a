-- Bodies of a good book that stand one behind the other are one segment of it: by induction on how many they are.
use mathlib.Core.List.{List, ◌++◌, append_assoc, append-nil}
use mathlib.Core.Path.{◌≡◌, refl, sym, ap, ap₂, ◌∙◌}
use Prim.Native.Nat.{ℕ, zero, suc, ◌+◌, ◌-◌, ◌*◌, ◌≤◌, ◌<◌}
use native.Mathlib.Nat.{add-zero, add-suc, zero-add}
use native.Mathlib.Numerals.{add-one}
use native.Mathlib.Omega.{arith}
use lib.ListN.{take, drop}
use Rattle.contents.specs.Contents.{count_of, length_of, entry_of, body_start, contents_number}
use Rattle.contents.proofs.Laws.Test.{start-zero, start-next}
use Rattle.contents.proofs.Laws.Good.{good}
use Rattle.body_fields.specs.Fields.{joined}
use Rattle.book.specs.Book.{bytes_of}
use Rattle.body_fields.proofs.Laws.Segment.{segment, segment-next}

module _ (bs : List ℕ) where
  pub start-suc : (j : ℕ) → body_start bs (suc j) ≡ body_start bs j + length_of bs j
  start-suc j = ap (body_start bs) (sym (add-one j)) ∙ start-next bs j

  pub start_up : (q d : ℕ) → body_start bs q ≤ body_start bs (q + d)
  start_up q zero = omega (arith, ap (body_start bs) (add-zero q))
  start_up q (suc d) = omega (arith, start_up q d, ap (body_start bs) (add-suc q d), start-suc (q + d))

  module _ (z : contents_number bs ≡ 0) where
    body_is : (i : ℕ) → i < count_of bs → bytes_of bs i ≡ segment bs (body_start bs i) (length_of bs i)
    unfolding bytes_of
    body_is i h = ap (λ (s : ℕ). take (length_of bs i) (drop s bs)) ((good bs z).body i h (entry_of bs i) refl).start

    -- d bodies from body q on, behind p others
    pub run : (g : ℕ → List ℕ) (p q d : ℕ) → q + d ≤ count_of bs → ((i : ℕ) → i < d → g (p + i) ≡ bytes_of bs (q + i))
        → joined (p + d) g ≡ joined p g ++ segment bs (body_start bs q) (body_start bs (q + d) - body_start bs q)
    unfolding joined
    run g p q zero h e =
        let none : body_start bs (q + 0) - body_start bs q ≡ 0 = omega (arith, ap (body_start bs) (add-zero q)) in
        ap (λ (k : ℕ). joined k g) (add-zero p)
        ∙ sym (append-nil (joined p g))
        ∙ ap (λ (k : ℕ). joined p g ++ take k (drop (body_start bs q) bs)) (sym none)
    run g p q (suc d) h e =
        let k = body_start bs (q + d) - body_start bs q in
        let at : body_start bs (q + d) ≡ body_start bs q + k = omega (arith, start_up q d) in
        let more : k + length_of bs (q + d) ≡ body_start bs (q + suc d) - body_start bs q = omega (arith, start_up q d, ap (body_start bs) (add-suc q d), start-suc (q + d)) in
        ap (λ (m : ℕ). joined m g) (add-suc p d)
        ∙ ap₂ ◌++◌ (run g p q d (omega (arith, h)) (λ i l. e i (omega arith)))
        (e d (omega arith) ∙ body_is (q + d) (omega (arith, h)) ∙ ap (λ (s : ℕ). segment bs s (length_of bs (q + d))) at)
        ∙ append_assoc (joined p g) (segment bs (body_start bs q) k) (segment bs (body_start bs q + k) (length_of bs (q + d)))
        ∙ ap (λ (l : List ℕ). joined p g ++ l) (segment-next bs (body_start bs q) k (length_of bs (q + d)) ∙ ap (segment bs (body_start bs q)) more)

    -- the first ones
    pub run-first : (g : ℕ → List ℕ) (j : ℕ) → j ≤ count_of bs → ((i : ℕ) → i < j → g i ≡ bytes_of bs i)
        → joined j g ≡ segment bs (4 + 8 * count_of bs) (body_start bs j - (4 + 8 * count_of bs))
    unfolding joined
    run-first g j h e =
        ap (λ (k : ℕ). joined k g) (sym (zero-add j))
        ∙ run g 0 0 j (omega arith) (λ i l. ap g (zero-add i) ∙ e i l ∙ ap (bytes_of bs) (sym (zero-add i)))
        ∙ ap₂ (λ (s m : ℕ). segment bs s (body_start bs m - s)) (sym (start-zero bs)) (zero-add j)

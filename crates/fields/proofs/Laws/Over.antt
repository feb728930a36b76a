-- Bytes at a place of a list: the bytes stand there, all others stay, and what a writer of the lent part from there on leaves.
use mathlib.Core.Path.{◌≡◌, refl, sym, ap, ◌∙◌}
use mathlib.Core.List.{List, ◌++◌}
use Prim.Native.Nat.{ℕ, ◌+◌, ◌-◌, ◌≤◌, ◌<◌}
use native.Mathlib.Omega.{arith}
use lib.ListN.{length, take, drop, get_or, length-append, length-drop}
use lib.Seq.{take_at, drop_at, drop-drop, length-take-le, get_or-take, get_or-drop}
use Rattle.fields.specs.Bytes.{front, over}
use Rattle.fields.proofs.Laws.Front.{lent-part, lent_back}

-- the front of the part from a place on
pub over-front : (xs bs : List ℕ) (at : ℕ) → take at xs ++ front (drop at xs) bs ≡ over xs at bs
unfolding front over
over-front xs bs at = ap (λ (l : List ℕ). take at xs ++ (bs ++ l)) (drop-drop (length bs) at xs)

-- a part lent to the end and written at its front, in the whole
pub lent-over : (xs bs ys : List ℕ) (at : ℕ) → ys ≡ front (take (length xs - at) (drop at xs)) bs
    → take at xs ++ (ys ++ drop (length xs - at) (drop at xs)) ≡ over xs at bs
lent-over xs bs ys at w =
    lent_back xs ys at ∙ ap (λ (l : List ℕ). take at xs ++ l) (w ∙ ap (λ (l : List ℕ). front l bs) (lent-part xs at)) ∙ over-front xs bs at

module _ (xs bs : List ℕ) (at : ℕ) (h : at ≤ length xs) where
  pub take-over : take at (over xs at bs) ≡ take at xs
  unfolding over
  take-over = take_at (take at xs) (bs ++ drop (at + length bs) xs) at (length-take-le at xs h)

  pub inside-over : take (length bs) (drop at (over xs at bs)) ≡ bs
  unfolding over
  inside-over =
      ap (λ (l : List ℕ). take (length bs) l) (drop_at (take at xs) (bs ++ drop (at + length bs) xs) at (length-take-le at xs h))
      ∙ take_at bs (drop (at + length bs) xs) (length bs) refl

  pub drop-over : drop (at + length bs) (over xs at bs) ≡ drop (at + length bs) xs
  unfolding over
  drop-over =
      sym (drop-drop (length bs) at (over xs at bs))
      ∙ ap (λ (l : List ℕ). drop (length bs) l) (drop_at (take at xs) (bs ++ drop (at + length bs) xs) at (length-take-le at xs h))
      ∙ drop_at bs (drop (at + length bs) xs) (length bs) refl

  pub over-before : (i : ℕ) → i < at → get_or (over xs at bs) i 0 ≡ get_or xs i 0
  over-before i l = sym (get_or-take at (over xs at bs) i 0 l) ∙ ap (λ (s : List ℕ). get_or s i 0) take-over ∙ get_or-take at xs i 0 l

  pub over-in : (i : ℕ) → i < length bs → get_or (over xs at bs) (at + i) 0 ≡ get_or bs i 0
  over-in i l =
      sym (get_or-drop at (over xs at bs) i 0)
      ∙ sym (get_or-take (length bs) (drop at (over xs at bs)) i 0 l)
      ∙ ap (λ (s : List ℕ). get_or s i 0) inside-over

  pub over-behind : (i : ℕ) → at + length bs ≤ i → get_or (over xs at bs) i 0 ≡ get_or xs i 0
  over-behind i l =
      let n = at + length bs in
      let e : n + (i - n) ≡ i = omega arith in
      ap (λ (k : ℕ). get_or (over xs at bs) k 0) (sym e)
      ∙ sym (get_or-drop n (over xs at bs) (i - n) 0)
      ∙ ap (λ (s : List ℕ). get_or s (i - n) 0) drop-over
      ∙ get_or-drop n xs (i - n) 0
      ∙ ap (λ (k : ℕ). get_or xs k 0) e

  pub length_over : at + length bs ≤ length xs → length (over xs at bs) ≡ length xs
  unfolding over
  length_over l =
      length-append (take at xs) (bs ++ drop (at + length bs) xs)
      ∙ omega (arith, length-take-le at xs h, length-append bs (drop (at + length bs) xs), length-drop (at + length bs) xs)

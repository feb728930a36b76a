-- The laws of text laid over an area: texts one behind the other are one text. By induction on the text.
use mathlib.Core.Path.{◌≡◌, refl, sym, ap, ◌∙◌}
use mathlib.Core.List.{List, [], ◌∷◌, ◌++◌}
use mathlib.Core.Logic.{⊎_elim}
use Prim.Native.Nat.{ℕ, suc, ◌+◌, ◌≤◌, ◌<◌, min}
use native.Mathlib.Omega.{arith}
use lib.ListN.{length, take, drop, set, length-append, length-set}
use lib.Seq.{set_out, take-set-le, take_at, sets, sets-eq}
use Rattle.exact.proofs.Laws.Sum.{split}
use Rattle.lines_words.specs.Overlay.{overlaid, top, place_behind}

-- the length stays
pub overlaid-length : (xs : List ℕ) (at : ℕ) (bs : List ℕ) → length (overlaid xs at bs) ≡ length xs
unfolding overlaid
overlaid-length xs at [] = refl
overlaid-length xs at (b ∷ bs) = overlaid-length (set xs at b) (suc at) bs ∙ length-set xs at b

-- beyond the end all bytes are dropped
pub overlaid-beyond : (xs : List ℕ) (at : ℕ) (bs : List ℕ) → length xs ≤ at → overlaid xs at bs ≡ xs
unfolding overlaid
overlaid-beyond xs at [] h = refl
overlaid-beyond xs at (b ∷ bs) h = rw (set_out xs at b h) (overlaid-beyond xs (suc at) bs (omega arith))

-- bytes before the place stay
stays : (n : ℕ) (xs : List ℕ) (at : ℕ) (bs : List ℕ) → n ≤ at → take n (overlaid xs at bs) ≡ take n xs
unfolding overlaid
stays n xs at [] h = refl
stays n xs at (b ∷ bs) h = stays n (set xs at b) (suc at) bs (omega arith) ∙ take-set-le n xs at b h

pub overlaid-before : (xs : List ℕ) (at : ℕ) (bs : List ℕ) → take at (overlaid xs at bs) ≡ take at xs
overlaid-before xs at bs = stays at xs at bs (omega arith)

-- texts at consecutive places are one text
overlaid-more : (xs : List ℕ) (at : ℕ) (bs cs : List ℕ) → overlaid (overlaid xs at bs) (at + length bs) cs ≡ overlaid xs at (bs ++ cs)
unfolding overlaid
overlaid-more xs at [] cs = ap (λ (p : ℕ). overlaid xs p cs) (omega arith)
overlaid-more xs at (b ∷ bs) cs =
    let e : at + suc (length bs) ≡ suc at + length bs = omega arith in
    ap (λ (p : ℕ). overlaid (overlaid (set xs at b) (suc at) bs) p cs) e ∙ overlaid-more (set xs at b) (suc at) bs cs

-- a text that fits stands there, between what stood before and behind it
is-sets : (xs : List ℕ) (at : ℕ) (bs : List ℕ) → overlaid xs at bs ≡ sets xs at bs
unfolding overlaid
is-sets xs at [] = refl
is-sets xs at (b ∷ bs) = is-sets (set xs at b) (suc at) bs

overlaid-fits : (xs : List ℕ) (at : ℕ) (bs : List ℕ) → at + length bs ≤ length xs → overlaid xs at bs ≡ take at xs ++ bs ++ drop (at + length bs) xs
overlaid-fits xs at bs h = is-sets xs at bs ∙ sets-eq bs xs at h

-- at the front, the area begins with the text
pub overlaid-front : (xs bs : List ℕ) → length bs ≤ length xs → take (length bs) (overlaid xs 0 bs) ≡ bs
overlaid-front xs bs h = ap (take (length bs)) (overlaid-fits xs 0 bs (omega arith)) ∙ take_at bs (drop (0 + length bs) xs) (length bs) refl

-- ---- with a place that stops at the largest
-- the place behind two texts
pub after_more : (at : ℕ) (bs cs : List ℕ) → place_behind (place_behind at bs) cs ≡ place_behind at (bs ++ cs)
unfolding place_behind
after_more at bs cs = rw (length-append bs cs) (omega arith)

-- a text laid from the place behind another, in an area that is no longer than places go
pub overlaid-after : (xs : List ℕ) (at : ℕ) (bs cs : List ℕ) → length xs ≤ top → overlaid (overlaid xs at bs) (place_behind at bs) cs ≡ overlaid xs at (bs ++ cs)
unfolding place_behind
overlaid-after xs at bs cs h = ⊎_elim near far (split (at + length bs) top)
  where
    near : at + length bs < top → overlaid (overlaid xs at bs) (min (at + length bs) top) cs ≡ overlaid xs at (bs ++ cs)
    near l = let e : min (at + length bs) top ≡ at + length bs = omega arith in rw e (overlaid-more xs at bs cs)

    far : top ≤ at + length bs → overlaid (overlaid xs at bs) (min (at + length bs) top) cs ≡ overlaid xs at (bs ++ cs)
    far l =
        let e : min (at + length bs) top ≡ top = omega arith in
        let k : length (overlaid xs at bs) ≡ length xs = overlaid-length xs at bs in
        rw e (overlaid-beyond (overlaid xs at bs) top cs (omega arith) ∙ sym (overlaid-beyond (overlaid xs at bs) (at + length bs) cs (omega arith)) ∙ overlaid-more xs at bs cs)

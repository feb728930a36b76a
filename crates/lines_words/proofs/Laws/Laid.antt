-- The laws of writers: what one leaves, that one after another lays both texts, and what a caller learns from a place. By those of text laid over an area.
use mathlib.Core.Path.{◌≡◌, refl, sym, ap, ap₂, ◌∙◌}
use mathlib.Core.List.{List, [], ◌∷◌, ◌++◌}
use Prim.Native.Nat.{ℕ, ◌+◌, ◌≤◌, ◌<◌}
use native.Mathlib.Omega.{arith}
use native.Mathlib.Numerals.{add-one}
use lib.ListN.{length, get_or, take}
use lib.Seq.{take-suc}
use Rattle.lines_words.specs.Overlay.{overlaid, top, place_behind, TextLaid}
use Rattle.lines_words.proofs.Laws.Overlay.{overlaid-length, overlaid-front, overlaid-after, after_more}

-- ---- what one writer leaves
-- no text leaves all as it was
pub laid_none : (xs : List ℕ) (at : ℕ) → at ≤ top → TextLaid xs at [] xs at
unfolding overlaid place_behind
laid_none xs at h = record { area = refl; place = omega arith }

-- a writer keeps the area's length
pub laid-length : {xs text ys : List ℕ} {at r : ℕ} → TextLaid xs at text ys r → length ys ≡ length xs
laid-length {xs} {text} {ys} {at} {r} l = ap length l.area ∙ overlaid-length xs at text

-- ---- writers one after the other
-- one writer after another lays both texts
pub laid_more : {xs ys zs bs cs : List ℕ} {at p q : ℕ} → length xs ≤ top → TextLaid xs at bs ys p → TextLaid ys p cs zs q → TextLaid xs at (bs ++ cs) zs q
laid_more {xs} {ys} {zs} {bs} {cs} {at} {p} {q} h l m =
    record {
      area = m.area ∙ ap₂ (λ (xs : List ℕ) (p : ℕ). overlaid xs p cs) l.area l.place ∙ overlaid-after xs at bs cs h;
      place = m.place ∙ ap (λ (p : ℕ). place_behind p cs) l.place ∙ after_more at bs cs;
    }

-- the same text, written otherwise
pub laid-text : {xs bs cs ys : List ℕ} {at r : ℕ} → bs ≡ cs → TextLaid xs at bs ys r → TextLaid xs at cs ys r
laid-text e l = rw e at l

-- one byte more of a word
pub laid_next : (ws : List ℕ) (i : ℕ) {xs ys zs : List ℕ} {at p q : ℕ} → length xs ≤ top → i < length ws
    → TextLaid xs at (take i ws) ys p → TextLaid ys p (get_or ws i 0 ∷ []) zs q → TextLaid xs at (take (i + 1) ws) zs q
laid_next ws i h l m n = laid-text (sym (ap (λ (k : ℕ). take k ws) (add-one i) ∙ take-suc ws i 0 l)) (laid_more h m n)

-- ---- what a caller learns
-- the place is the sum, where that is a place
pub laid-place : {xs text ys : List ℕ} {at r : ℕ} → TextLaid xs at text ys r → at + length text ≤ top → r ≡ at + length text
unfolding place_behind
laid-place l h = omega (arith, l.place)

-- a text that fits from the front on stands there, up to the place
pub laid-front : {xs text ys : List ℕ} {r : ℕ} → TextLaid xs 0 text ys r → length text ≤ length xs → length xs ≤ top → take r ys ≡ text
laid-front {xs} {text} {ys} {r} l h g =
    let e : r ≡ length text = omega (arith, laid-place l (omega arith)) in
    ap₂ (λ (n : ℕ) (zs : List ℕ). take n zs) e l.area ∙ overlaid-front xs text h

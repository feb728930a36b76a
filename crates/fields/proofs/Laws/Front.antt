-- Bytes over the front of a list: lengths, what stands where, and one law that chains the writers of a lent part.
use mathlib.Core.Path.{◌≡◌, refl, sym, ap, ◌∙◌}
use mathlib.Core.List.{List, [], ◌++◌, append_assoc, append-nil}
use Prim.Native.Nat.{ℕ, zero, suc, ◌+◌, ◌-◌, ◌/◌, ◌≤◌, ◌<◌}
use native.Mathlib.Nat.{le_of_eq}
use native.Mathlib.Omega.{arith}
use lib.ListN.{length, take, drop, get_or, length-append, length-drop, drop_of_length-le, get_or-append}
use lib.Seq.{take_at, drop_at, drop-drop, take_all, get_or-append-add, get_or-drop}
use Rattle.fields.specs.Bytes.{le, front}

pub length-le : (k v : ℕ) → length (le k v) ≡ k
unfolding le
length-le zero v = refl
length-le (suc k) v = ap suc (length-le k (v / 256))

module _ (xs bs : List ℕ) where
  pub length_front : length bs ≤ length xs → length (front xs bs) ≡ length xs
  unfolding front
  length_front h = simp (length-append, length-drop) (omega arith)

  pub front-in : (i : ℕ) → i < length bs → get_or (front xs bs) i 0 ≡ get_or bs i 0
  unfolding front
  front-in i h = get_or-append bs (drop (length bs) xs) 0 i h

  pub front_out : (i : ℕ) → length bs ≤ i → get_or (front xs bs) i 0 ≡ get_or xs i 0
  unfolding front
  front_out i h =
      let e : length bs + (i - length bs) ≡ i = omega arith in
      ap (λ (k : ℕ). get_or (bs ++ drop (length bs) xs) k 0) (sym e)
      ∙ get_or-append-add bs (drop (length bs) xs) (i - length bs) 0
      ∙ get_or-drop (length bs) xs (i - length bs) 0
      ∙ ap (λ (k : ℕ). get_or xs k 0) e

  pub take-front : (n : ℕ) → length bs ≡ n → take n (front xs bs) ≡ bs
  unfolding front
  take-front n e = take_at bs (drop (length bs) xs) n e

pub front-none : (xs : List ℕ) → xs ≡ front xs []
unfolding front
front-none xs = refl

-- cs over the front of what stands behind bs: bs ++ cs over the front
pub front-more : (xs bs cs : List ℕ) (n : ℕ) → length bs ≡ n → take n (front xs bs) ++ front (drop n (front xs bs)) cs ≡ front xs (bs ++ cs)
unfolding front
front-more xs bs cs n e =
    ap (λ (l : List ℕ). l ++ front (drop n (front xs bs)) cs) (take_at bs (drop (length bs) xs) n e)
    ∙ ap (λ (l : List ℕ). bs ++ front l cs) (drop_at bs (drop (length bs) xs) n e)
    ∙ ap (λ (l : List ℕ). bs ++ (cs ++ l)) (drop-drop (length cs) (length bs) xs ∙ ap (λ (k : ℕ). drop k xs) (sym (length-append bs cs)))
    ∙ sym (append_assoc bs cs (drop (length (bs ++ cs)) xs))

-- ---- a part from a place on, lent to the end of the list: what it is, and the list when it came back as ys
pub lent-part : (xs : List ℕ) (at : ℕ) → take (length xs - at) (drop at xs) ≡ drop at xs
lent-part xs at = take_all (length xs - at) (drop at xs) (le_of_eq (length-drop at xs))

pub lent_back : (xs ys : List ℕ) (at : ℕ) → take at xs ++ (ys ++ drop (length xs - at) (drop at xs)) ≡ take at xs ++ ys
lent_back xs ys at =
    ap (λ (l : List ℕ). take at xs ++ (ys ++ l)) (drop_of_length-le (drop at xs) {i = length xs - at} (le_of_eq (length-drop at xs)))
    ∙ ap (λ (l : List ℕ). take at xs ++ l) (append-nil ys)

-- a field writer was lent the part behind the bytes bs, and wrote cs at its front
pub lent-front : (xs bs cs part ys : List ℕ) (at : ℕ) → part ≡ front xs bs → length bs ≡ at → ys ≡ front (take (length part - at) (drop at part)) cs
    → take at part ++ (ys ++ drop (length part - at) (drop at part)) ≡ front xs (bs ++ cs)
lent-front xs bs cs part ys at e n w =
    lent_back part ys at
    ∙ ap (λ (l : List ℕ). take at part ++ l) (w ∙ ap (λ (l : List ℕ). front l cs) (lent-part part at))
    ∙ ap (λ (l : List ℕ). take at l ++ front (drop at l) cs) e
    ∙ front-more xs bs cs at n

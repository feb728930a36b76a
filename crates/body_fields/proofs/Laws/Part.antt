-- Parts of a list of bytes, place by place: parts of what is joined, and the numbers that a part states.
use mathlib.Core.List.{List, [], ◌∷◌, ◌++◌}
use mathlib.Core.Logic.{⊎_elim}
use mathlib.Core.Path.{◌≡◌, sym, ap, subst, ◌∙◌}
use Prim.Native.Nat.{ℕ, zero, suc, ◌+◌, ◌*◌, ◌^◌, ◌≤◌, ◌<◌}
use native.Mathlib.Nat.{mul-le-mul_left}
use native.Mathlib.Omega.{arith}
use lib.ListN.{length, get_or-append}
use lib.Seq.{get_or-append-add, take_all}
use Rattle.exact.proofs.Laws.Sum.{split}
use Rattle.fields.specs.Bytes.{byte_at, le, number}
use Rattle.fields.proofs.Laws.Front.{length-le}
use Rattle.fields.proofs.Laws.Number.{number-ext, number-le}
use Rattle.body_fields.specs.Fields.{joined}
use Rattle.body_fields.proofs.Laws.Bytes.{length-joined}

-- xs stands in bs from a place on
abbrev pub Part : List ℕ → ℕ → List ℕ → Type 0
Part bs at xs = (i : ℕ) → i < length xs → byte_at bs (at + i) ≡ byte_at xs i

-- at another name of the place
pub part_at : (bs xs : List ℕ) (a b : ℕ) → a ≡ b → Part bs a xs → Part bs b xs
part_at bs xs a b e = subst (λ (n : ℕ). Part bs n xs) e

pub part-own : (xs : List ℕ) → Part xs 0 xs
part-own xs i l = ap (byte_at xs) (omega arith)

pub part_left : (xs ys ps : List ℕ) (at : ℕ) → at + length ps ≤ length xs → Part xs at ps → Part (xs ++ ys) at ps
part_left xs ys ps at h w i l = get_or-append xs ys 0 (at + i) (omega arith) ∙ w i l

pub part_right : (xs ys ps : List ℕ) (n at : ℕ) → length xs ≡ n → Part ys at ps → Part (xs ++ ys) (n + at) ps
part_right xs ys ps n at e w i l =
    let k : n + at + i ≡ length xs + (at + i) = omega (arith, e) in
    ap (byte_at (xs ++ ys)) k ∙ get_or-append-add xs ys (at + i) 0 ∙ w i l

-- of fields of one length, one behind the other
pub part-joined : (w n : ℕ) (f : ℕ → List ℕ) → ((i : ℕ) → length (f i) ≡ w) → (v : ℕ) → v < n → Part (joined n f) (w * v) (f v)
unfolding joined
part-joined w zero f e v l = absurd (omega arith)
part-joined w (suc n) f e v l = ⊎_elim (λ b. low b (part-joined w n f e v b)) high (split v n)
  where
    room : w * suc v ≤ w * n → w * v + length (f v) ≤ length (joined n f)
    room k = omega (arith, e v, length-joined w n f e)

    low : v < n → Part (joined n f) (w * v) (f v) → Part (joined n f ++ f n) (w * v) (f v)
    low b = part_left (joined n f) (f n) (f v) (w * v) (room (mul-le-mul_left w b))

    end : Part (joined n f ++ f n) (w * n) (f n)
    end = part_at (joined n f ++ f n) (f n) (w * n + 0) (w * n) (omega arith) (part_right (joined n f) (f n) (f n) (w * n) 0 (length-joined w n f e) (part-own (f n)))

    high : n ≤ v → Part (joined n f ++ f n) (w * v) (f v)
    high b = let q : n ≡ v = omega arith in subst (λ (u : ℕ). Part (joined n f ++ f n) (w * u) (f u)) q end

-- ---- what a part states
pub part-byte : (bs : List ℕ) (at b : ℕ) → Part bs at (b ∷ []) → b ≡ byte_at bs at
part-byte bs at b w = sym (ap (byte_at bs) (omega arith) ∙ w 0 (omega arith))

pub part-number : (k v : ℕ) (bs : List ℕ) (at : ℕ) → v < 256 ^ k → Part bs at (le k v) → v ≡ number k bs at
part-number k v bs at h w =
    sym
    (number-ext k bs (le k v) at 0 (λ i l. w i (omega (arith, length-le k v)) ∙ ap (byte_at (le k v)) (omega arith))
    ∙ number-le k v (le k v) 0 (take_all k (le k v) (omega (arith, length-le k v))) h)

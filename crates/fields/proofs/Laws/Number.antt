-- Numbers read from bytes: bounds, equal bytes, what was written is read back, and the other way round. By induction on the count of bytes.
use mathlib.Core.Path.{◌≡◌, refl, sym, ap, ap₂, ◌∙◌}
use mathlib.Core.List.{List, [], ◌∷◌}
use Prim.Native.Nat.{ℕ, zero, suc, ◌+◌, ◌*◌, ◌/◌, ◌%◌, ◌^◌, ◌≤◌, ◌<◌}
use native.Mathlib.Nat.{pow-suc, add-zero}
use native.Mathlib.Omega.{arith}
use lib.ListN.{length, take, drop, get_or-eq_default}
use lib.Seq.{drop-cons, get_or-drop, get_or-take}
use Rattle.fields.specs.Bytes.{byte_at, le, number, front}
use Rattle.fields.specs.Inner.Bytes.{of_le}
use Rattle.fields.proofs.Laws.Front.{length-le, take-front}

pub byte-beyond : (bs : List ℕ) (i : ℕ) → length bs ≤ i → 0 ≡ byte_at bs i
byte-beyond bs i h = sym (get_or-eq_default bs 0 h)

-- equal bytes at two places
pub number-ext : (k : ℕ) (bs cs : List ℕ) (a b : ℕ) → ((i : ℕ) → i < k → byte_at bs (a + i) ≡ byte_at cs (b + i)) → number k bs a ≡ number k cs b
unfolding number
number-ext zero bs cs a b h = refl
number-ext (suc k) bs cs a b h =
    let e : byte_at bs a ≡ byte_at cs b = ap (byte_at bs) (sym (add-zero a)) ∙ h 0 (omega arith) ∙ ap (byte_at cs) (add-zero b) in
    let step : (x : ℕ) (i : ℕ) → suc x + i ≡ x + suc i = λ x i. omega arith in
    omega (
      arith,
      number-ext k bs cs (suc a) (suc b) (λ i l. ap (byte_at bs) (step a i) ∙ h (suc i) (omega arith) ∙ ap (byte_at cs) (sym (step b i))),
    )

-- a number in the part from a place on
pub number-drop : (k : ℕ) (bs : List ℕ) (at d : ℕ) → number k (drop at bs) d ≡ number k bs (at + d)
number-drop k bs at d =
    number-ext k (drop at bs) bs d (at + d) (λ i l. get_or-drop at bs (d + i) 0 ∙ (let e : at + (d + i) ≡ at + d + i = omega arith in ap (byte_at bs) e))

-- a number in the first n bytes
pub number-take : (k n : ℕ) (bs : List ℕ) (at : ℕ) → at + k ≤ n → number k (take n bs) at ≡ number k bs at
number-take k n bs at h = number-ext k (take n bs) bs at at (λ i l. get_or-take n bs (at + i) 0 (omega arith))

pub number-beyond : (k : ℕ) (bs : List ℕ) (at : ℕ) → length bs ≤ at → number k bs at ≡ 0
unfolding number
number-beyond zero bs at h = refl
number-beyond (suc k) bs at h = omega (arith, number-beyond k bs (suc at) (omega arith), get_or-eq_default bs 0 h)

pub number_lt : (k : ℕ) (bs : List ℕ) (at : ℕ) → ((i : ℕ) → byte_at bs i < 256) → number k bs at < 256 ^ k
unfolding number
number_lt zero bs at h = omega arith
number_lt (suc k) bs at h = rw (pow-suc 256 k) (omega (arith, number_lt k bs (suc at) h, h at))

-- the list of the bytes gives the same number
number-list : (k : ℕ) (l : List ℕ) → number k l 0 ≡ of_le (take k l)
unfolding number of_le
number-list zero l = refl
number-list (suc k) [] = omega (arith, number-beyond k [] 1 (omega arith))
number-list (suc k) (b ∷ l) = ap (λ (x : ℕ). b + 256 * x) (sym (number-drop k (b ∷ l) 1 0) ∙ number-list k l)

pub number-of : (k : ℕ) (bs : List ℕ) (at : ℕ) → number k bs at ≡ of_le (take k (drop at bs))
number-of k bs at = ap (number k bs) (sym (add-zero at)) ∙ sym (number-drop k bs at 0) ∙ number-list k (drop at bs)

-- ---- written and read back
pub le-back : (k v : ℕ) → v < 256 ^ k → of_le (le k v) ≡ v
unfolding le of_le
le-back zero v h = omega arith
le-back (suc k) v h =
    let p : 256 ^ suc k ≡ 256 ^ k * 256 = pow-suc 256 k in
    let l : v / 256 < 256 ^ k = omega arith in
    omega (arith, le-back k (v / 256) l)

-- where the bytes of v stand, v is read
pub number-le : (k v : ℕ) (bs : List ℕ) (at : ℕ) → take k (drop at bs) ≡ le k v → v < 256 ^ k → number k bs at ≡ v
number-le k v bs at e h = number-of k bs at ∙ ap of_le e ∙ le-back k v h

pub number-front : (k v : ℕ) (xs : List ℕ) → v < 256 ^ k → number k (front xs (le k v)) 0 ≡ v
number-front k v xs h = number-le k v (front xs (le k v)) 0 (take-front xs (le k v) k (length-le k v)) h

-- ---- read and written back
pub le-number : (k : ℕ) (bs : List ℕ) (at : ℕ) → at + k ≤ length bs → ((i : ℕ) → byte_at bs i < 256) → le k (number k bs at) ≡ take k (drop at bs)
unfolding le number
le-number zero bs at h b = refl
le-number (suc k) bs at h b =
    let x = number k bs (suc at) in
    let lo : (byte_at bs at + 256 * x) % 256 ≡ byte_at bs at = omega (arith, b at) in
    let hi : (byte_at bs at + 256 * x) / 256 ≡ x = omega (arith, b at) in
    ap₂ (λ (y z : ℕ). y ∷ le k z) lo hi
    ∙ ap (λ (l : List ℕ). byte_at bs at ∷ l) (le-number k bs (suc at) (omega arith) b)
    ∙ ap (take (suc k)) (sym (drop-cons bs at 0 (omega arith)))

-- The library's bytes of a number, and its number of bytes, are those that the documents' order gives. By induction on the count of bytes.
use mathlib.Core.Path.{◌≡◌, refl, sym, ap, ap₂, ◌∙◌}
use mathlib.Core.List.{List, ◌∷◌}
use Prim.Native.Nat.{ℕ, zero, suc, ◌+◌, ◌*◌, ◌/◌, ◌%◌, ◌^◌, ◌≤◌}
use native.Mathlib.Nat.{pow-suc, div-one, add-zero, div-div-eq-div-mul, mul_assoc}
use native.Mathlib.Omega.{arith}
use lib.ListN.{get_or}
use Rattle.std.specs.Int.{byte_worth, bytes_low_first, sum_through}
use Rattle.fields.specs.Bytes.{byte_at, le, number}
use Rattle.fields.specs.Listed.{listed}
use Rattle.fields.proofs.Laws.Listed.{listed_at}

-- ---- written
next-byte : (v i : ℕ) → v / 256 ^ i / 256 ≡ v / 256 ^ suc i
next-byte v i = div-div-eq-div-mul v (256 ^ i) 256 ∙ ap (λ (p : ℕ). v / p) (sym (pow-suc 256 i))

bytes-le : (k i v : ℕ) → bytes_low_first i k v ≡ le k (v / 256 ^ i)
unfolding le
bytes-le zero i v = refl
bytes-le (suc k) zero v = ap₂ (λ (a : ℕ) (b : List ℕ). a ∷ b) (sym (ap (λ (a : ℕ). a % 256) (div-one v))) (bytes-le k 1 v ∙ ap (le k) (sym (next-byte v 0)))
bytes-le (suc k) (suc i) v = ap (λ (b : List ℕ). v / 256 ^ suc i % 256 ∷ b) (bytes-le k (suc (suc i)) v ∙ ap (le k) (sym (next-byte v (suc i))))

pub le-bytes : (k v : ℕ) → bytes_low_first 0 k v ≡ le k v
le-bytes k v = bytes-le k 0 v ∙ ap (le k) (div-one v)

-- ---- read
-- one byte more at the top
number-top : (k : ℕ) (bs : List ℕ) (at : ℕ) → number (suc k) bs at ≡ number k bs at + byte_at bs (at + k) * 256 ^ k
unfolding number
number-top zero bs at = omega (arith, ap (byte_at bs) (add-zero at))
number-top (suc k) bs at =
    let e : suc at + k ≡ at + suc k = omega arith in
    let p : byte_at bs (at + suc k) * (256 ^ k * 256) ≡ byte_at bs (at + suc k) * 256 ^ k * 256 = sym (mul_assoc _ (256 ^ k) 256) in
    let t : number (suc k) bs (suc at) ≡ number k bs (suc at) + byte_at bs (at + suc k) * 256 ^ k = number-top k bs (suc at) ∙ ap (λ (j : ℕ). number k bs (suc at) + byte_at bs j * 256 ^ k) e in
    rw (pow-suc 256 k) (omega (arith, t, p))

number-one : (bs : List ℕ) (at : ℕ) → byte_at bs at ≡ number 1 bs at
unfolding number
number-one bs at = omega arith

sum-number : (k : ℕ) (bs xs : List ℕ) (at : ℕ) → ((i : ℕ) → i ≤ k → get_or xs i 0 ≡ byte_at bs (at + i)) → sum_through (λ i. byte_worth i (get_or xs i 0)) k ≡ number (suc k) bs at
sum-number zero bs xs at h = h 0 (omega arith) ∙ ap (byte_at bs) (add-zero at) ∙ number-one bs at
sum-number (suc k) bs xs at h =
    ap₂ (λ (a b : ℕ). a + b * 256 ^ suc k) (sum-number k bs xs at (λ i l. h i (omega arith))) (h (suc k) (omega arith)) ∙ sym (number-top (suc k) bs at)

pub number-bytes : (k : ℕ) (bs : List ℕ) (at : ℕ) → sum_through (λ i. byte_worth i (get_or (listed (suc k) (λ j. byte_at bs (at + j))) i 0)) k ≡ number (suc k) bs at
number-bytes k bs at = sum-number k bs _ at (λ i l. listed_at 0 (suc k) (λ j. byte_at bs (at + j)) i (omega arith))

-- Packed masks: their bits, their size, and the loop that makes them. A sum of digits is the mask that has them.
use mathlib.Core.Path.{◌≡◌, refl, sym, ap, ap₂, ◌∙◌}
use Prim.Native.Nat.{ℕ, zero, suc, ◌+◌, ◌*◌, ◌%◌, ◌^◌, ◌≤◌, ◌<◌}
use native.Mathlib.Nat.{pow-suc, add-zero}
use native.Mathlib.Numerals.{add-one}
use native.Mathlib.Omega.{arith}
use lib.Count.{ones}
use lib.Pow.{pow_mono}
use Rattle.exact.specs.Sum.{total}
use Rattle.exact.proofs.Laws.Sum.{total_ext, total-mul, total_first}
use Rattle.bits.specs.Mask.{bit, pow}
use Rattle.bits.proofs.Laws.Packed as mask
use Rattle.bits.proofs.Laws.Bit.{bit-lt, bit-above, pow_low}
use Rattle.body_pack.specs.Slot.{rank, slot_at, packed_mask}
use Rattle.body_pack.proofs.Laws.Slot.{rank-le, slot-rank, ones-rank}

-- ---- a number by its digits
pub digits : ℕ → (ℕ → ℕ) → ℕ
digits n b = total n (λ i. b i * 2 ^ i)

digits-first : (n : ℕ) (b : ℕ → ℕ) → digits (suc n) b ≡ b 0 + 2 * digits n (λ i. b (suc i))
unfolding digits
digits-first n b =
    total_first n (λ i. b i * 2 ^ i)
    ∙ ap₂ (λ (x y : ℕ). x + y) (omega arith) (total_ext n _ _ (λ i l. ap (λ (p : ℕ). b (suc i) * p) (pow-suc 2 i) ∙ omega arith) ∙ total-mul n 2 (λ i. b (suc i) * 2 ^ i))

digits-mask : (n : ℕ) (b : ℕ → ℕ) → digits n b ≡ mask.packed n b
unfolding digits total mask.packed
digits-mask zero b = refl
digits-mask (suc n) b = digits-first n b ∙ ap (λ (x : ℕ). b 0 + 2 * x) (digits-mask n (λ i. b (suc i)))

digits_lt : (n : ℕ) (b : ℕ → ℕ) → ((i : ℕ) → b i < 2) → digits n b < 2 ^ n
digits_lt n b h = rw (digits-mask n b) (mask.packed_lt n b h)

-- ---- a packed mask
packed-digits : (live m : ℕ) → packed_mask live m ≡ digits (ones live) (λ i. bit m (slot_at live i))
unfolding packed_mask digits
packed-digits live m = refl

pub packed_lt : (live m : ℕ) → packed_mask live m < 2 ^ ones live
packed_lt live m = rw (packed-digits live m) (digits_lt (ones live) (λ i. bit m (slot_at live i)) (λ i. bit-lt m (slot_at live i)))

pub packed-bit : (live m i : ℕ) → i < ones live → bit (packed_mask live m) i ≡ bit m (slot_at live i)
packed-bit live m i l =
    ap (λ (x : ℕ). bit x i) (packed-digits live m ∙ digits-mask (ones live) (λ j. bit m (slot_at live j)))
    ∙ mask.packed-bit (ones live) (λ j. bit m (slot_at live j)) (λ j. bit-lt m (slot_at live j)) i l

pub packed_above : (live m i : ℕ) → ones live ≤ i → bit (packed_mask live m) i ≡ 0
packed_above live m i l = bit-above (ones live) (packed_mask live m) i (packed_lt live m) l

-- ---- the loop that makes it: the bits of the live slots below v, i of them
pub packed_to : ℕ → ℕ → ℕ → ℕ
packed_to live m i = digits i (λ j. bit m (slot_at live j))

pub to_none : (live m : ℕ) → 0 ≡ packed_to live m 0
unfolding packed_to digits total
to_none live m = refl

to-lt : (live m i r : ℕ) → r ≡ packed_to live m i → r < 2 ^ i
unfolding packed_to
to-lt live m i r e = rw e (digits_lt i (λ j. bit m (slot_at live j)) (λ j. bit-lt m (slot_at live j)))

pub to-all : (live m i r : ℕ) → live < 2 ^ 64 → i ≡ rank live 64 → r ≡ packed_to live m i → r ≡ packed_mask live m
unfolding packed_to
to-all live m i r h e f = f ∙ ap (λ (n : ℕ). digits n (λ j. bit m (slot_at live j))) (e ∙ sym (ones-rank live h)) ∙ sym (packed-digits live m)

-- what one slot adds
pub term : (live m v i on d s in-it out : ℕ) → v < 64 → i ≡ rank live v → on ≡ bit live v → d ≡ bit m v → s ≡ pow i → in-it ≡ d % 2 * s → out ≡ on % 2 * in-it
    → out ≡ bit live v * (bit m v * 2 ^ i)
term live m v i on d s in-it out l e eo ed es ei eq =
    let p : s ≡ 2 ^ i = es ∙ pow_low i (omega (arith, rank-le live v)) in
    let o : on % 2 ≡ bit live v = omega (arith, bit-lt live v) in
    let q : d % 2 ≡ bit m v = omega (arith, bit-lt m v) in
    eq ∙ ap₂ (λ (x y : ℕ). x * y) o (ei ∙ ap₂ (λ (x y : ℕ). x * y) q p)

pub to-more : (live m v i on r out : ℕ) → v < 64 → i ≡ rank live v → on ≡ bit live v → r ≡ packed_to live m i → out ≡ bit live v * (bit m v * 2 ^ i)
    → r + out ≡ packed_to live m (i + on)
unfolding packed_to digits total
to-more live m v i on r out l e eo er eq = go on eo (omega (arith, bit-lt live v))
  where
    f : ℕ → ℕ
    f j = bit m (slot_at live j) * 2 ^ j

    go : (b : ℕ) → b ≡ bit live v → b < 2 → r + out ≡ total (i + b) f
    go zero p k =
        let z : out ≡ 0 = eq ∙ ap (λ (x : ℕ). x * (bit m v * 2 ^ i)) (sym p) ∙ omega arith in
        omega (arith, ap (λ (x : ℕ). total x f) (add-zero i))
    go (suc zero) p k =
        let z : out ≡ bit m v * 2 ^ i = eq ∙ ap (λ (x : ℕ). x * (bit m v * 2 ^ i)) (sym p) ∙ omega arith in
        let w : bit m (slot_at live i) ≡ bit m v = ap (bit m) (ap (slot_at live) e ∙ slot-rank live v l (sym p)) in
        let t : total (i + 1) f ≡ total (suc i) f = ap (λ (x : ℕ). total x f) (add-one i) in
        let u : f i ≡ bit m v * 2 ^ i = ap (λ (x : ℕ). x * 2 ^ i) w in
        omega arith
    go (suc (suc b)) p k = absurd (omega arith)

-- the sum still fits
pub to-fits : (live m v i r out : ℕ) → v < 64 → i ≡ rank live v → r ≡ packed_to live m i → out ≡ bit live v * (bit m v * 2 ^ i) → r + out < 2 ^ 64
to-fits live m v i r out l e er eq =
    let n : suc i ≤ 64 = omega (arith, rank-le live v) in
    let p : 2 ^ suc i ≤ 2 ^ 64 = pow_mono n in
    let q : out ≤ 2 ^ i = rw eq (small (bit live v) (bit m v) (bit-lt live v) (bit-lt m v)) in
    omega (arith, to-lt live m i r er, pow-suc 2 i)
  where
    small : (a b : ℕ) → a < 2 → b < 2 → a * (b * 2 ^ i) ≤ 2 ^ i
    small zero b h k = omega arith
    small (suc zero) zero h k = omega arith
    small (suc zero) (suc zero) h k = omega arith
    small (suc zero) (suc (suc b)) h k = absurd (omega arith)
    small (suc (suc a)) b h k = absurd (omega arith)

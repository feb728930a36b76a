-- The way to a power ends at it: what the code steps to is √2^z as the definition gives it, for z from −2,001 to 2,001.
use mathlib.Core.Path.{◌≡◌, refl, sym, ap, ◌∙◌}
use Prim.Native.Nat.{ℕ, suc, ◌+◌, ◌-◌, ◌/◌, ◌%◌, ◌^◌, ◌≤◌, ◌<◌}
use native.Mathlib.Omega.{arith}
use native.Mathlib.Decide.{ℕ_discrete}
use mathlib.Core.Bool.{Bool, true, false, cond}
use lib.IntN.{ℤ, pos, negsuc}
use lib.Dec.{ltb, lit<, lit≤}
use borrow.Author.Tests.{ltb-true, ltb-false, eq-eqb, ne_eqb}
use lib.Ieee.{fin, minus}
use Rattle.doubles.specs.Power.{root_top, root_power}
use Rattle.doubles.specs.Inner.Steps.{repeated, two, half, start_at, stepped}
use Rattle.doubles.proofs.Laws.Ratio.{ratio, minus-up, minus-down, ratio-same}
use Rattle.doubles.proofs.Laws.Exact.{product-exact, repeat}

-- from m/2^b, where m has d digits and 1 ≤ m/2^b < 2
stepped-from : (m b d u : ℕ) → start_at u ≡ ratio m 0 b → m % 2 ≡ 1 → m < 2 ^ d → d ≤ 53 → b ≤ 52 → d ≤ b + 1 → u ≤ 4003
    → stepped u ≡ ratio m (u / 2) (1001 + b)
unfolding stepped
stepped-from m b d u start o small short low wide top = go (ltb (u / 2) 1001) (ltb-true (u / 2) 1001) (ltb-false (u / 2) 1001)
  where
    go : (t : Bool) → (t ≡ true → u / 2 < 1001) → (t ≡ false → 1001 ≤ u / 2)
        → cond t (repeated (start_at u) half (1001 - u / 2)) (repeated (start_at u) two (u / 2 - 1001)) ≡ ratio m (u / 2) (1001 + b)
    go true f g =
        let l : u / 2 < 1001 = f refl in
        repeat (start_at u) half (λ (k : ℕ). ratio m 0 (b + k)) (1001 - u / 2) (start ∙ ratio-same m 0 b 0 (b + 0) (omega arith))
        (λ k l. product-exact m 0 (b + k) d 0 1 o small short (omega arith) (omega arith) ∙ ratio-same m (0 + 0) (b + k + 1) 0 (b + suc k) (omega arith))
        ∙ ratio-same m 0 (b + (1001 - u / 2)) (u / 2) (1001 + b) (omega arith)
    go false f g =
        let l : 1001 ≤ u / 2 = g refl in
        let h : u / 2 ≤ 2001 = omega arith in
        repeat (start_at u) two (λ (k : ℕ). ratio m k b) (u / 2 - 1001) start
        (λ k l. product-exact m k b d 1 0 o small short (omega arith) (omega arith) ∙ ratio-same m (k + 1) (b + 0) (suc k) b (omega arith))
        ∙ ratio-same m (u / 2 - 1001) b (u / 2) (1001 + b) (omega arith)

start-even : (u : ℕ) → u % 2 ≡ 0 → start_at u ≡ ratio 1 0 0
unfolding start_at
start-even u h = rw (eq-eqb (u % 2) 0 h)

start-odd : (u : ℕ) → (u % 2 ≡ 0 → ⊥) → start_at u ≡ ratio root_top 0 52
unfolding start_at
start-odd u h = rw (ne_eqb (u % 2) 0 h)

stepped-even : (u : ℕ) → u ≤ 4003 → u % 2 ≡ 0 → stepped u ≡ ratio 1 (u / 2) 1001
stepped-even u top h = stepped-from 1 0 1 u (start-even u h) refl (lit< tt) (lit≤ tt) (lit≤ tt) (lit≤ tt) top

stepped-odd : (u : ℕ) → u ≤ 4003 → (u % 2 ≡ 0 → ⊥) → stepped u ≡ ratio root_top (u / 2) 1053
stepped-odd u top h = stepped-from root_top 52 53 u (start-odd u h) refl (lit< tt) (lit≤ tt) (lit≤ tt) (lit≤ tt) top

-- the four cases of √2^z
pub even-plus : (n : ℕ) → n % 2 ≡ 0 → root_power (pos n) ≡ fin false 1 (pos (n / 2))
unfolding root_power
even-plus n h = rw (eq-eqb (n % 2) 0 h)

pub odd-plus : (n : ℕ) → (n % 2 ≡ 0 → ⊥) → root_power (pos n) ≡ fin false root_top (minus (n / 2) 52)
unfolding root_power
odd-plus n h = rw (ne_eqb (n % 2) 0 h)

pub odd-minus : (n : ℕ) → n % 2 ≡ 0 → root_power (negsuc n) ≡ fin false root_top (negsuc (n / 2 + 52))
unfolding root_power
odd-minus n h = rw (eq-eqb (n % 2) 0 h)

pub even-minus : (n : ℕ) → (n % 2 ≡ 0 → ⊥) → root_power (negsuc n) ≡ fin false 1 (negsuc (n / 2))
unfolding root_power
even-minus n h = rw (ne_eqb (n % 2) 0 h)

-- u is z + 2002
abbrev pub At : ℤ → ℕ → Type 0
At (pos n) u = u ≡ n + 2002
At (negsuc n) u = u + n ≡ 2001

pub stepped-at : (z : ℤ) (u : ℕ) → At z u → u ≤ 4003 → stepped u ≡ root_power z
stepped-at (pos n) u at top = go (ℕ_discrete (n % 2) 0)
  where
    go : Dec (n % 2 ≡ 0) → stepped u ≡ root_power (pos n)
    go (yes h) =
        let e : u % 2 ≡ 0 = omega arith in
        stepped-even u top e ∙ ap (λ (k : ℤ). fin false 1 k) (minus-up (n / 2) 1001 (u / 2) (omega arith)) ∙ sym (even-plus n h)
    go (no h) =
        let e : u % 2 ≡ 0 → ⊥ = λ k. h (omega arith) in
        stepped-odd u top e ∙ ratio-same root_top (u / 2) 1053 (n / 2) 52 (omega arith) ∙ sym (odd-plus n h)
stepped-at (negsuc n) u at top = go (ℕ_discrete (n % 2) 0)
  where
    go : Dec (n % 2 ≡ 0) → stepped u ≡ root_power (negsuc n)
    go (yes h) =
        let e : u % 2 ≡ 0 → ⊥ = λ k. omega arith in
        stepped-odd u top e ∙ ap (λ (k : ℤ). fin false root_top k) (minus-down (n / 2 + 52) 1053 (u / 2) (omega arith)) ∙ sym (odd-minus n h)
    go (no h) =
        let o : n % 2 ≡ 1 = omega arith in
        let e : u % 2 ≡ 0 = omega arith in
        stepped-even u top e ∙ ap (λ (k : ℤ). fin false 1 k) (minus-down (n / 2) 1001 (u / 2) (omega arith)) ∙ sym (even-minus n h)

-- The mask of the n lowest bits as it is made: one shifted, less one; or all of them.
use mathlib.Core.Path.{◌≡◌, ap, ◌∙◌}
use Prim.Native.Nat.{ℕ, ◌-◌, ◌*◌, ◌%◌, ◌^◌, ◌≤◌, ◌<◌}
use native.Mathlib.Nat.{mod-eq_of_lt}
use native.Mathlib.Omega.{arith}
use lib.Pow.{pow-lt}

pub one_shifted : (n : ℕ) → n < 64 → 1 * 2 ^ n % 18446744073709551616 ≡ 2 ^ n
one_shifted n h =
    let e : 1 * 2 ^ n ≡ 2 ^ n = omega arith in
    ap (λ (m : ℕ). m % 18446744073709551616) e ∙ mod-eq_of_lt (pow-lt h)

pub all_live : (n : ℕ) → n ≤ 64 → 64 ≤ n → 18446744073709551615 ≡ 2 ^ n - 1
all_live n h l =
    let q : 64 ≡ n = omega arith in
    ap (λ (k : ℕ). 2 ^ k - 1) q

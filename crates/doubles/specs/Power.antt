-- √2^s as a double. "An even power of √2 comes out as an exact power of two. An odd power is the double nearest to it, a power of two times 6369051672525773/2^52."
use Rattle.std.specs.Prelude.{ℕ, ◌+◌, ◌/◌, ◌%◌, false, cond, ℤ, pos, negsuc, eqb, Float}
use Rattle.std.specs.Float.{fin}
use Rattle.std.specs.Float.Ieee.{minus}

-- "That numerator m": m/2^52 is the double nearest to √2
abbrev pub root_top : ℕ
root_top = 6369051672525773

-- √2^s is 2^(s/2) where s is even, and m/2^52 times 2^((s − 1)/2) where s is odd; `negsuc n` is −(n + 1)
unfoldable pub root_power : ℤ → Float
root_power (pos n) = cond (eqb (n % 2) 0) (fin false 1 (pos (n / 2))) (fin false root_top (minus (n / 2) 52))
root_power (negsuc n) = cond (eqb (n % 2) 0) (fin false root_top (negsuc (n / 2 + 52))) (fin false 1 (negsuc (n / 2)))

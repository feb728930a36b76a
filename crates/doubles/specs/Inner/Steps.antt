-- The way to a power: "exact doublings or halvings of 1 or of the √2 constant", each rounded as the machine rounds.
use Rattle.std.specs.Prelude.{ℕ, zero, suc, ◌+◌, ◌-◌, ◌/◌, ◌%◌, min, false, cond, ℤ, pos, negsuc, eqb, ltb, Float}
use Rattle.std.specs.Float.{fin, binary64}
use Rattle.std.specs.Float.Ieee.{mul}
use Rattle.doubles.specs.Power.{root_top}

-- n products with f: n doublings where f is 2, n halvings where it is 1/2
unfoldable pub repeated : Float → Float → ℕ → Float
repeated x f zero = x
repeated x f (suc n) = mul binary64 (repeated x f n) f

-- 2 and 1/2
abbrev pub two : Float
two = fin false 1 (pos 1)

abbrev pub half : Float
half = fin false 1 (negsuc 0)

-- 1 for an even power, m/2^52 for an odd one
unfoldable pub start_at : ℕ → Float
start_at u = cond (eqb (u % 2) 0) (fin false 1 (pos 0)) (fin false root_top (negsuc 51))

-- the way to √2^(u − 2002)
unfoldable pub stepped : ℕ → Float
stepped u = cond (ltb (u / 2) 1001) (repeated (start_at u) half (1001 - u / 2)) (repeated (start_at u) two (u / 2 - 1001))

-- a power, held within −2,000..2,000, and 2,002 more
unfoldable pub raised : ℤ → ℕ
raised (pos n) = 2002 + min n 2000
raised (negsuc n) = 2001 - min n 1999

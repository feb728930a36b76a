-- The power of root two that a chance is, as it is computed.
use Rattle.std.specs.Prelude.{ℕ, zero, suc, ◌*◌, ℤ, pos, negsuc}

-- −n
abbrev pub minus : ℕ → ℤ
minus zero = pos 0
minus (suc n) = negsuc n

-- one over two to the e is √2^(−2e)
unfoldable pub minus_twice : ℕ → ℤ
minus_twice e = minus (2 * e)

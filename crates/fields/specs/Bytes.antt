-- "numbers are little-endian": a number as bytes, bytes as a number, and bytes laid over a part of a list.
use Rattle.std.specs.Prelude.{List, [], ◌∷◌, ◌++◌, ℕ, zero, suc, ◌+◌, ◌*◌, ◌/◌, ◌%◌, length, take, drop, get_or}

-- the byte at a place, and 0 beyond the end
abbrev pub byte_at : List ℕ → ℕ → ℕ
byte_at bs i = get_or bs i 0

-- the k lowest bytes of v, the lowest first
unfoldable pub le : ℕ → ℕ → List ℕ
le zero v = []
le (suc k) v = v % 256 ∷ le k (v / 256)

-- the number of k bytes at a place, the lowest byte first
unfoldable pub number : ℕ → List ℕ → ℕ → ℕ
number zero bs at = 0
number (suc k) bs at = byte_at bs at + 256 * number k bs (suc at)

-- bs over the front of xs
unfoldable pub front : List ℕ → List ℕ → List ℕ
front xs bs = bs ++ drop (length bs) xs

-- bs at a place of xs: what stands before and behind stays
unfoldable pub over : List ℕ → ℕ → List ℕ → List ℕ
over xs at bs = take at xs ++ (bs ++ drop (at + length bs) xs)

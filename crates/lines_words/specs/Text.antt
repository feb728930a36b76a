-- Texts as bytes: words letter by letter, and numbers in decimal.
use Rattle.std.specs.Prelude.{cond, List, [], ◌∷◌, ◌++◌, ℕ, zero, suc, ◌+◌, ◌/◌, ◌%◌, ltb, ℤ, pos, negsuc}
use Prim.Native.Char.{code}
use Prim.Native.String as string
use Prim.Native.String.{String}

-- the bytes of a word: its letters' codes
unfoldable pub letters : String → List ℕ
letters string.[] = []
letters (string.◌∷◌ c s) = code c ∷ letters s

-- the digits of n, and only the last k of them where it has more. It recurses on k
unfoldable pub last_digits : ℕ → ℕ → List ℕ
last_digits zero n = []
last_digits (suc k) n = let more = last_digits k (n / 10) ++ ((48 + n % 10) ∷ []) in cond (ltb n 10) ((48 + n) ∷ []) more

-- a number in decimal, without leading zeros: n has no more than n + 1 digits
unfoldable pub digits : ℕ → List ℕ
digits n = last_digits (suc n) n

-- a minus sign stands before a negative number
unfoldable pub signed_text : ℤ → List ℕ
signed_text (pos n) = digits n
signed_text (negsuc n) = letters "-" ++ digits (suc n)

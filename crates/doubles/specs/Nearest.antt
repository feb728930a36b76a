-- Which double is nearest to √2^s, by squares of whole numbers, both sides multiplied up by powers of two.
use Rattle.std.specs.Prelude.{◌≡◌, ℕ, ◌+◌, ◌-◌, ◌*◌, ◌%◌, ◌^◌, ◌≤◌, ◌<◌, true, false, ℤ, pos, negsuc, ◌+ℤ◌, T, Float}
use Rattle.std.specs.Float.{nan, inf, fin, binary64}
use Rattle.std.specs.Float.Ieee.{up, down, fits}

-- an odd power, an even power; −(n + 1) is odd where n is even
abbrev pub OddPower : ℤ → Type 0
OddPower (pos n) = n % 2 ≡ 1
OddPower (negsuc n) = n % 2 ≡ 0

abbrev pub EvenPower : ℤ → Type 0
EvenPower (pos n) = n % 2 ≡ 0
EvenPower (negsuc n) = n % 2 ≡ 1

-- a power from −2,001 to 2,001
abbrev pub PartRange : ℤ → Type 0
PartRange (pos n) = n ≤ 2001
PartRange (negsuc n) = n ≤ 2000

-- m·2^e is the double nearest to √2^s: it is a double of 53 binary digits, so that its neighbours are (m ± 1)·2^e, and
-- √2^s lies between (m − 1/2)·2^e and (m + 1/2)·2^e. Here 2^e is up e / down e, and √2^s squared is up s / down s.
pub record Nearest (s : ℤ) (m : ℕ) (e : ℤ) : Type 0 where
  pub double : T (fits binary64 (fin false m e))
  pub digits : (2 ^ 52 < m) × (m < 2 ^ 53)
  pub under : (2 * m - 1) * (2 * m - 1) * (up e * up e * down s) < 4 * (up s * (down e * down e))
  pub over : 4 * (up s * (down e * down e)) < (2 * m + 1) * (2 * m + 1) * (up e * up e * down s)

-- x is the double nearest to √2^s
abbrev pub NearestTo : ℤ → Float → Type 0
NearestTo s nan = ⊥
NearestTo s (inf b) = ⊥
NearestTo s (fin true m e) = ⊥
NearestTo s (fin false m e) = Nearest s m e

-- x is a double and is 2^(s/2)
abbrev pub PowerOfTwo : ℤ → Float → Type 0
PowerOfTwo s nan = ⊥
PowerOfTwo s (inf b) = ⊥
PowerOfTwo s (fin true m e) = ⊥
PowerOfTwo s (fin false m e) = T (fits binary64 (fin false m e)) × (m ≡ 1) × (e +ℤ e ≡ s)

-- Pseudo-random numbers: xorshift64, a round of it and a word made of several.
use Rattle.std.specs.Prelude.{ℕ, ◌+◌, ◌*◌, ◌/◌, ◌%◌, ◌^◌, bit_xor}

-- s with itself n places to the left, in 64 bits
unfoldable pub left : ℕ → ℕ → ℕ
left n s = bit_xor s (s * 2 ^ n % 2 ^ 64)

-- s with itself n places to the right
unfoldable pub right : ℕ → ℕ → ℕ
right n s = bit_xor s (s / 2 ^ n)

-- a round of xorshift64
unfoldable pub round : ℕ → ℕ
round s = left 17 (right 7 (left 13 s))

-- a word of a seed: the seed is mixed by rounds, and once with its own low half
unfoldable pub mixed : ℕ → ℕ
mixed a = round (round ((round (round (round a)) + a * 2 ^ 32 % 2 ^ 64) % 2 ^ 64))

-- number `at` of a stream
unfoldable pub word_of : ℕ → ℕ → ℕ
word_of stream at = mixed ((round (bit_xor stream 11400714819323198485) + at) % 2 ^ 64)

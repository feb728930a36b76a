-- How long a line can be, with its numbers in their ranges: by counting digits.
use Prim.Native.Nat.{ℕ, suc, ◌+◌, ◌≤◌, ◌<◌}
use native.Mathlib.Omega.{arith}
use lib.IntN.{ℤ, pos, negsuc, nat_abs}
use lib.ListN.{length, length-append}
use Rattle.std.specs.Prelude.{Result, Ok, Err}
use Rattle.exact.specs.declared.Answer.{Answer}
use Rattle.exact.specs.declared.Answer.TheVariants as answer
use Rattle.lines_words.specs.Text.{letters, digits, signed_text}
use Rattle.lines_words.proofs.Laws.Digits.{digits-length}
use Rattle.lines.proofs.Laws.Lengths as amounts
use Rattle.path_sum.specs.declared.Four.{Four}
use Rattle.path_sum.specs.declared.PathSum.{PathSum}
use Rattle.path_sum.specs.Paths.{value_of}
use Rattle.path_sum.proofs.Laws.Small.{Within}
use Rattle.path_lines.specs.Lines.{refused_text, four_text, paths_text, summed_text, path_line}

signed : (k n : ℕ) → ((m : ℕ) → m ≤ n → length (digits m) ≤ k) → (s : ℤ) → nat_abs s ≤ n → length (signed_text s) ≤ suc k
unfolding signed_text letters
signed k n d (pos m) h = omega (arith, d m h)
signed k n d (negsuc m) h = omega (arith, d (suc m) h)

-- no more than 2^20, and no more than 2,000
large : (s : ℤ) → nat_abs s ≤ 1048576 → length (signed_text s) ≤ 8
large s h = signed 7 1048576 (λ m l. digits-length 6 m (omega arith)) s h

power : (s : ℤ) → nat_abs s ≤ 2000 → length (signed_text s) ≤ 5
power s h = signed 4 2000 (λ m l. digits-length 3 m (omega arith)) s h

refused : (k n : ℕ) → length (digits n) ≤ k → length (refused_text n) ≤ 8 + k
unfolding refused_text letters
refused k n h = simp length-append (omega (arith, h))

four : (f : Four) → Within 1048576 (value_of f) → length (four_text f) ≤ 35
unfolding four_text letters
four f w = simp length-append (omega (arith, large f.c0 w.first, large f.c1 w.second, large f.c2 w.third, large f.c3 w.fourth))

-- the first half: a refusal of two digits, or small numbers and a power in range
abbrev pub PathsShort : Result PathSum ℕ → Type 0
PathsShort (Err n) = n < 100
PathsShort (Ok s) = Within 1048576 (value_of s.four) × (nat_abs s.power.0 ≤ 2000)

paths : (r : Result PathSum ℕ) → PathsShort r → length (paths_text r) ≤ 41
unfolding paths_text letters
paths (Err n) h = omega (arith, refused 2 n (digits-length 1 n h))
paths (Ok s) h = simp length-append (omega (arith, four s.four h.0, power s.power.0 h.1))

-- the second half: a refusal of one digit, or an amount in range
abbrev pub SummedShort : Answer → Type 0
SummedShort (answer.Refused n) = n < 10
SummedShort (answer.Is a) = amounts.InRange a

summed : (a : Answer) → SummedShort a → length (summed_text a) ≤ 9
unfolding summed_text
summed (answer.Refused n) h = omega (arith, refused 1 n (digits-length 0 n h))
summed (answer.Is a) h = omega (arith, amounts.amount a h)

pub path-length : (j : ℕ) (r : Result PathSum ℕ) (a : Answer) → j < 100 → PathsShort r → SummedShort a → length (path_line j r a) ≤ 55
unfolding path_line letters
path-length j r a h p s = simp length-append (omega (arith, digits-length 1 j h, paths r p, summed a s))

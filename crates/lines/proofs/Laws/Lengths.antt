-- How long a line can be, with its numbers in their ranges: by counting digits.
use Prim.Native.Nat.{ℕ, suc, ◌≤◌, ◌<◌}
use native.Mathlib.Omega.{arith}
use lib.IntN.{ℤ, pos, negsuc, nat_abs}
use lib.ListN.{length, length-append}
use Rattle.exact.specs.declared.Amount.{Amount}
use Rattle.exact.specs.declared.Amount.TheVariants.{Zero, Some}
use Rattle.exact.specs.declared.Chance.{Chance}
use Rattle.exact.specs.declared.Chance.TheVariants.{Never, OneOver}
use Rattle.exact.specs.Chance.{power_of}
use Rattle.lines_words.specs.Text.{letters, digits, signed_text}
use Rattle.lines.specs.Lines.{named_line, book_line, amount_text, circuit_line, counts_text, table_line, chance_text, record_line, refused_line, refused_body_line}
use Rattle.lines_words.proofs.Laws.Digits.{digits-length}

-- an amount in its range: "a power from −2,000 to 2,000", "a phase c (0..7)"
abbrev pub InRange : Amount → Type 0
InRange Zero = Unit {0}
InRange (Some s c) = (nat_abs s.0 ≤ 2000) × (c.0 < 8)

one : (n : ℕ) → n < 10 → length (digits n) ≤ 1
one n h = digits-length 0 n h

two : (n : ℕ) → n < 100 → length (digits n) ≤ 2
two n h = digits-length 1 n h

four : (n : ℕ) → n < 10000 → length (digits n) ≤ 4
four n h = digits-length 3 n h

signed : (s : ℤ) → nat_abs s ≤ 2000 → length (signed_text s) ≤ 5
unfolding signed_text letters
signed (pos n) h = omega (arith, four n (omega arith))
signed (negsuc n) h = omega (arith, four (suc n) (omega arith))

pub amount : (a : Amount) → InRange a → length (amount_text a) ≤ 7
unfolding amount_text letters
amount Zero h = omega arith
amount (Some s c) h = simp length-append (omega (arith, signed s.0 h.0, one c.0 (omega arith)))

counts : (live ties : ℕ) (a : Amount) → live < 100 → ties < 100 → length (counts_text live ties a) ≤ 6
unfolding counts_text letters
counts live ties Zero h g = simp length-append (omega (arith, two live h))
counts live ties (Some s c) h g = simp length-append (omega (arith, two live h, two ties g))

pub book-length : (k : ℕ) → k < 100 → length (book_line k) ≤ 8
unfolding book_line named_line letters
book-length k h = simp length-append (omega (arith, two k h))

pub circuit-length : (j : ℕ) (a : Amount) → j < 100 → InRange a → length (circuit_line j a) ≤ 13
unfolding circuit_line letters
circuit-length j a h l = simp length-append (omega (arith, two j h, amount a l))

pub table-length : (j live ties : ℕ) (a : Amount) → j < 100 → live < 100 → ties < 100 → InRange a → length (table_line j live ties a) ≤ 19
unfolding table_line letters
table-length j live ties a h g m l = simp length-append (omega (arith, two j h, counts live ties a g m, amount a l))

chance : (c : Chance) → power_of c ≤ 65536 → length (chance_text c) ≤ 5
unfolding chance_text letters
chance Never h = omega arith
chance (OneOver e) h = digits-length 4 e (omega arith)

pub record-length : (j : ℕ) (c : Chance) → j < 100 → power_of c ≤ 65536 → length (record_line j c) ≤ 11
unfolding record_line letters
record-length j c h l = simp length-append (omega (arith, two j h, chance c l))

pub refused-length : (n : ℕ) → n < 1000 → length (refused_line n) ≤ 12
unfolding refused_line named_line letters
refused-length n h = simp length-append (omega (arith, digits-length 2 n h))

pub refused-body-length : (j n : ℕ) → j < 100 → n < 1000 → length (refused_body_line j n) ≤ 15
unfolding refused_body_line named_line letters
refused-body-length j n h l = simp length-append (omega (arith, two j h, digits-length 2 n l))

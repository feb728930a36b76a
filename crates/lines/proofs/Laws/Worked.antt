-- The definitions give document 01's own text, and that of a line of each kind: by computing them.
use mathlib.Core.Path.{◌≡◌, refl}
use mathlib.Core.List.{[], ◌∷◌, ◌++◌}
use lib.IntN.{pos, negsuc}
use Rattle.exact.specs.Amount.{none, some}
use Rattle.exact.specs.declared.Chance.TheVariants.{Never, OneOver}
use Rattle.lines_words.specs.Text.{letters, last_digits, digits, signed_text}
use Rattle.lines.specs.Lines.{named_line, book_line, amount_text, circuit_line, counts_text, table_line, chance_text, record_line, refused_line}

-- ---- numbers
pub digits-0 : digits 0 ≡ letters "0"
unfolding digits last_digits letters
digits-0 = refl

pub digits_7 : digits 7 ≡ letters "7"
unfolding digits last_digits letters
digits_7 = refl

pub digits-10 : digits 10 ≡ letters "10"
unfolding digits last_digits letters
digits-10 = refl

pub digits-2000 : digits 2000 ≡ letters "2000"
unfolding digits last_digits letters
digits-2000 = refl

pub digits-60000 : digits 60000 ≡ letters "60000"
unfolding digits last_digits letters
digits-60000 = refl

-- the largest number of 64 bits: 20 digits
pub digits-largest : digits 18446744073709551615 ≡ letters "18446744073709551615"
unfolding digits last_digits letters
digits-largest = refl

-- the least signed number of 32 bits
pub signed-least : signed_text (negsuc 2147483647) ≡ letters "-2147483648"
unfolding signed_text digits last_digits letters
signed-least = refl

-- ---- lines
-- document 01's listing, byte by byte
pub listing-worked : book_line 2 ++ circuit_line 0 (some (negsuc 0) 0) ++ circuit_line 1 (some (negsuc 0) 1)
    ≡ 98 ∷ 111 ∷ 111 ∷ 107 ∷ 32 ∷ 50 ∷ 10
    ∷ 48 ∷ 32 ∷ 67 ∷ 32 ∷ 45 ∷ 49 ∷ 32 ∷ 48 ∷ 10
    ∷ 49 ∷ 32 ∷ 67 ∷ 32 ∷ 45 ∷ 49 ∷ 32 ∷ 49 ∷ 10 ∷ []
unfolding book_line named_line circuit_line amount_text signed_text digits last_digits letters
listing-worked = refl

-- and as a text
pub listing-text : book_line 2 ++ circuit_line 0 (some (negsuc 0) 0) ++ circuit_line 1 (some (negsuc 0) 1) ≡ letters "book 2\n0 C -1 0\n1 C -1 1\n"
unfolding book_line named_line circuit_line amount_text signed_text digits last_digits letters
listing-text = refl

pub circuit-zero : circuit_line 0 none ≡ letters "0 C zero\n"
unfolding circuit_line amount_text digits last_digits letters
circuit-zero = refl

pub table-some : table_line 15 64 3 (some (pos 2000) 7) ≡ letters "15 T 64 3 2000 7\n"
unfolding table_line counts_text amount_text signed_text digits last_digits letters
table-some = refl

pub table-zero : table_line 0 5 0 none ≡ letters "0 T 5 zero\n"
unfolding table_line counts_text amount_text digits last_digits letters
table-zero = refl

pub refused-12 : refused_line 12 ≡ letters "refused 12\n"
unfolding refused_line named_line digits last_digits letters
refused-12 = refl

-- the longest line of a record
pub record-far : record_line 15 (OneOver 32768) ≡ letters "15 R 32768\n"
unfolding record_line chance_text digits last_digits letters
record-far = refl

pub record-none : record_line 0 Never ≡ letters "0 R none\n"
unfolding record_line chance_text digits last_digits letters
record-none = refl

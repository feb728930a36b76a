-- The lines of a listing, each with its newline.
use Rattle.std.specs.Prelude.{List, ◌++◌, ℕ}
use Rattle.exact.specs.declared.Amount.{Amount}
use Rattle.exact.specs.declared.Amount.TheVariants.{Zero, Some}
use Rattle.exact.specs.declared.Chance.{Chance}
use Rattle.exact.specs.declared.Chance.TheVariants.{Never, OneOver}
use Rattle.lines_words.specs.Text.{letters, digits, signed_text}

-- a word, a number and the newline
unfoldable pub named_line : List ℕ → ℕ → List ℕ
named_line word n = word ++ digits n ++ letters "\n"

-- "First line `book` and the count."
unfoldable pub book_line : ℕ → List ℕ
book_line k = named_line (letters "book ") k

-- "power, phase"; "For zero: .. `zero`"
unfoldable pub amount_text : Amount → List ℕ
amount_text Zero = letters "zero"
amount_text (Some s c) = signed_text s.0 ++ letters " " ++ digits c.0

-- "Then for each body: number, `C`, power, phase"; "For zero: `0 C zero`"
unfoldable pub circuit_line : ℕ → Amount → List ℕ
circuit_line j a = digits j ++ letters " C " ++ amount_text a ++ letters "\n"

-- "live, ties", as counts, each with a blank behind it; for zero: "`0 T` with live and `zero`"
unfoldable pub counts_text : ℕ → ℕ → Amount → List ℕ
counts_text live ties Zero = digits live ++ letters " "
counts_text live ties (Some s c) = digits live ++ letters " " ++ digits ties ++ letters " "

-- "or number, `T`, live, ties, power, phase"
unfoldable pub table_line : ℕ → ℕ → ℕ → Amount → List ℕ
table_line j live ties a = digits j ++ letters " T " ++ counts_text live ties a ++ amount_text a ++ letters "\n"

-- "that power or `none`"
unfoldable pub chance_text : Chance → List ℕ
chance_text Never = letters "none"
chance_text (OneOver e) = digits e

-- "`amps` prints number, `R`, that power or `none`."
unfoldable pub record_line : ℕ → Chance → List ℕ
record_line j c = digits j ++ letters " R " ++ chance_text c ++ letters "\n"

-- "A refused book gives the single line `refused` and the number."
unfoldable pub refused_line : ℕ → List ℕ
refused_line n = named_line (letters "refused ") n

-- "one line per body, `1 refused 7` in place of the answer"
unfoldable pub refused_body_line : ℕ → ℕ → List ℕ
refused_body_line j n = digits j ++ named_line (letters " refused ") n

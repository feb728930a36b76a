-- The line of a table in the listing of paths: its number, the four numbers and the power, then what is left once the bits are summed away.
use Rattle.std.specs.Prelude.{List, ◌++◌, ℕ, Result, Ok, Err}
use Rattle.exact.specs.declared.Answer.{Answer}
use Rattle.exact.specs.declared.Answer.TheVariants as answer
use Rattle.lines_words.specs.Text.{letters, digits, signed_text}
use Rattle.lines.specs.Lines.{amount_text}
use Rattle.path_sum.specs.declared.Four.{Four}
use Rattle.path_sum.specs.declared.PathSum.{PathSum}

-- "either half may read `refused` and a number"
unfoldable pub refused_text : ℕ → List ℕ
refused_text n = letters "refused " ++ digits n

-- "the four numbers"
unfoldable pub four_text : Four → List ℕ
four_text f = signed_text f.c0 ++ letters " " ++ signed_text f.c1 ++ letters " " ++ signed_text f.c2 ++ letters " " ++ signed_text f.c3

-- "the four numbers and power"
unfoldable pub paths_text : Result PathSum ℕ → List ℕ
paths_text (Err n) = refused_text n
paths_text (Ok s) = four_text s.four ++ letters " " ++ signed_text s.power.0

-- "the summed power and phase or `zero`"
unfoldable pub summed_text : Answer → List ℕ
summed_text (answer.Refused n) = refused_text n
summed_text (answer.Is a) = amount_text a

-- "a line of number, the four numbers and power, then the summed power and phase or `zero`"
unfoldable pub path_line : ℕ → Result PathSum ℕ → Answer → List ℕ
path_line j r a = digits j ++ letters " " ++ paths_text r ++ letters " " ++ summed_text a ++ letters "\n"

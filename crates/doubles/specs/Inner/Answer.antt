-- The answer by the steps of the code.
use Rattle.std.specs.Prelude.{[], Result, Ok, Err}
use Rattle.doubles.specs.Answer.{Answer, answer_of}
use Rattle.exact.specs.declared.Amount.{Amount}
use Rattle.exact.specs.declared.Refusal.{Refusal}
use Rattle.exact.specs.Code.{code_of}

-- a refusal's number, or the amount's answer
unfoldable pub answer_for : Result Amount Refusal → Answer
answer_for (Err r) = record { number = code_of r; values = [] }
answer_for (Ok a) = answer_of a

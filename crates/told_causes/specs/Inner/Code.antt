-- The number of a cause that may be none.
use Rattle.std.specs.Prelude.{ℕ, Option, Some, None}
use Rattle.cause.specs.declared.Cause.{Cause}
use Rattle.told_causes.specs.Told.{code_of}

-- a cause's number, 0 for none
abbrev pub code_in : Option Cause → ℕ
code_in None = 0
code_in (Some c) = code_of c

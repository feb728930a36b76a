-- The fault of a cause that may be none.
use Rattle.std.specs.Prelude.{ℕ, Option, Some, None}
use Rattle.cause.specs.Cause.{Cause, Finding, found, sound}

-- a fault where there is a cause, or else no fault
abbrev pub found_of : Option Cause → ℕ → ℕ → Finding
found_of None i b = sound
found_of (Some c) i b = found c i b

-- An answer as a number and what stands behind the pointer.
use Rattle.std.specs.Prelude.{Bool, true, false, ◌≡◌, ℕ, Result, Ok, Err}
use Rattle.exact.specs.declared.Refusal.{Refusal}
use Rattle.exact.specs.Code.{code_of}

abbrev pub TellsVerdict : Result Bool Refusal → ℕ → ℕ → ℕ → Type 0
TellsVerdict (Err r) before n after = (n ≡ code_of r) × (after ≡ before)
TellsVerdict (Ok true) before n after = (n ≡ 0) × (after ≡ 1)
TellsVerdict (Ok false) before n after = (n ≡ 0) × (after ≡ 0)

abbrev pub TellsPair : Result ℕ Refusal → ℕ → ℕ → ℕ → Type 0
TellsPair (Err r) before n after = (n ≡ code_of r) × (after ≡ before)
TellsPair (Ok h) before n after = (n ≡ 0) × (after ≡ h)

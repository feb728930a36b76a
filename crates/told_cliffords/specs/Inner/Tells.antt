-- An answer as a number and what stands behind the pointer.
use Rattle.std.specs.Prelude.{◌≡◌, ℕ, Result, Ok, Err}
use Rattle.exact.specs.declared.Refusal.{Refusal}
use Rattle.exact.specs.Code.{code_of}

abbrev pub Tells : Result ℕ Refusal → ℕ → ℕ → ℕ → Type 0
Tells (Err r) before n after = (n ≡ code_of r) × (after ≡ before)
Tells (Ok k) before n after = (n ≡ 0) × (after ≡ k)

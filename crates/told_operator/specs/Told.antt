-- What the calls for C on operators put behind the pointers that they are lent; n is the number that they answer, 0 for none.
use Rattle.std.specs.Prelude.{Bool, true, false, List, ◌≡◌, ℕ, Option, Some, None, Result, Ok, Err}
use Rattle.exact.specs.declared.Eighth.{Eighth}
use Rattle.exact.specs.declared.Refusal.{Refusal}
use Rattle.exact.specs.Code.{code_of}
use Rattle.operator.specs.Calls.{SameCall, PhaseCall}

-- 1 where the circuits are the same, 0 where they differ, and as it was where the call is refused
abbrev pub TellsSame : Result Bool Refusal → ℕ → ℕ → ℕ → Type 0
TellsSame (Err k) before n after = (n ≡ code_of k) × (after ≡ before)
TellsSame (Ok true) before n after = (n ≡ 0) × (after ≡ 1)
TellsSame (Ok false) before n after = (n ≡ 0) × (after ≡ 0)

-- the same beside the eighth turns, 0 where none will do
abbrev pub TellsPhase : Result (Option Eighth) Refusal → ℕ → ℕ → ℕ → ℕ → ℕ → Type 0
TellsPhase (Err k) before phase n after turns = (n ≡ code_of k) × (after ≡ before) × (turns ≡ phase)
TellsPhase (Ok (Some p)) before phase n after turns = (n ≡ 0) × (after ≡ 1) × (turns ≡ p.0)
TellsPhase (Ok None) before phase n after turns = (n ≡ 0) × (after ≡ 0) × (turns ≡ 0)

-- whether two circuits are the same operator
pub record SameTold (e w : ℕ) (bs : List ℕ) (f v : ℕ) (cs : List ℕ) (before n after : ℕ) : Type 0 where
  pub answer : Result Bool Refusal
  pub is : SameCall e w bs f v cs answer
  pub tells : TellsSame answer before n after

-- the common phase of two circuits
pub record PhaseTold (e w : ℕ) (bs : List ℕ) (f v : ℕ) (cs : List ℕ) (before phase n after turns : ℕ) : Type 0 where
  pub answer : Result (Option Eighth) Refusal
  pub is : PhaseCall e w bs f v cs answer
  pub tells : TellsPhase answer before phase n after turns

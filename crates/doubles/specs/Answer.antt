-- The answer's three cases, and an amount's answer. "refused as Entry is; otherwise an entry's value, either plain zero or two doubles"
use Rattle.std.specs.Prelude.{ℕ, ◌%◌, List, [], ◌∷◌, ℤ, Float}
use Rattle.std.proofs.Math.IntN.{pred_ℤ}
use Rattle.exact.specs.Code.{code_of}
use Rattle.exact.specs.declared.Amount.{Amount}
use Rattle.exact.specs.declared.Amount.TheVariants.{Some}
use Rattle.doubles.specs.Power.{root_power}
use Rattle.doubles.specs.Parts.{plus_zero, real_part, imaginary_part, clamped}
use Rattle.exact.specs.declared.Amount.TheVariants.{Zero as NoAmount}
pub use Rattle.doubles.specs.declared.Doubles.{Doubles}
pub use Rattle.doubles.specs.declared.Doubles.TheVariants.{Refused, Zero, Value}

-- a number of refusal (0 for none) and the values: none, plain zero, or two doubles
pub record Answer : Type 0 where
  pub number : ℕ
  pub values : List Float

-- each case's number and values
unfoldable pub answer : Doubles → Answer
answer (Refused r) = record { number = code_of r; values = [] }
answer Zero = record { number = 0; values = plus_zero ∷ [] }
answer (Value x y) = record { number = 0; values = x ∷ y ∷ [] }

-- √2^s · ω^p, "The real part comes first."
abbrev pub pair_of : ℤ → ℕ → List Float
pair_of s p = real_part p (root_power s) (root_power (pred_ℤ s)) ∷ imaginary_part p (root_power s) (root_power (pred_ℤ s)) ∷ []

-- any power and any phase: the power clamped within −2,000..2,000, the phase modulo 8
unfoldable pub parts_of : ℤ → ℕ → Answer
parts_of s p = record { number = 0; values = pair_of (clamped s) (p % 8) }

-- an amount is never refused; zero is plain zero
unfoldable pub answer_of : Amount → Answer
answer_of NoAmount = record { number = 0; values = plus_zero ∷ [] }
answer_of (Some s c) = parts_of s.0 c.0

-- The raised power: its range, and that it stands 2,002 above the clamped power.
use Prim.Native.Nat.{ℕ, zero, suc, ◌-◌, ◌≤◌}
use native.Mathlib.Omega.{arith}
use lib.IntN.{ℤ, pos, negsuc, pred_ℤ}
use Rattle.doubles.specs.Inner.Steps.{raised}
use Rattle.doubles.specs.Parts.{clamped}
use Rattle.doubles.proofs.Laws.Stepped.{At}

pub raised-in : (s : ℤ) → (2 ≤ raised s) × (raised s ≤ 4002)
unfolding raised
raised-in (pos n) = omega arith
raised-in (negsuc n) = omega arith

pub held_at : (s : ℤ) → At (clamped s) (raised s)
unfolding raised clamped
held_at (pos n) = omega arith
held_at (negsuc n) = omega arith

-- one less
pub pred-at : (z : ℤ) (u : ℕ) → At z u → 1 ≤ u → At (pred_ℤ z) (u - 1)
pred-at (pos zero) u at l = omega arith
pred-at (pos (suc n)) u at l = omega arith
pred-at (negsuc n) u at l = omega arith

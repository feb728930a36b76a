-- `all_fine` meets its contract: no item below j is refused where each was found fine.
use mathlib.Core.Bool.{true}
use mathlib.Core.Path.{◌≡◌}
use Prim.Native.Nat.{ℕ}
use Rattle.gates.specs.Circuit.{gates_number}
use Rattle.circuit_number.proofs.all_fine.Given as goal

abbrev pub invariant-loop-j : goal.invariant-loop-j
invariant-loop-j l = l.fine ≡ true → (d : ℕ) → gates_number d l.width l.gates l.j ≡ 0

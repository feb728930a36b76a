-- `first_refusal` meets its contract: no gate below j is refused.
use mathlib.Core.Path.{◌≡◌}
use Rattle.gates.specs.Circuit.{gates_number}
use Rattle.circuit_number.proofs.first_refusal.Given as goal

abbrev pub invariant-loop-j : goal.invariant-loop-j
invariant-loop-j l = gates_number l.dialect l.width l.gates l.j ≡ 0

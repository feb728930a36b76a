-- `head` meets its contract: the tests in their order.
use mathlib.Core.Path.{refl, subst}
use Prim.Native.Nat.{ℕ, ◌≤◌, ◌<◌}
use native.Mathlib.Omega.{arith}
use Rattle.circuit_number.proofs.Laws.Number.{strings}
use Rattle.cause_circuit.proofs.Laws.Ways.{not-threes, too_many, no-wires, many-wires, input-out, output-out, head-sound}
use Rattle.cause_circuit.proofs.head.Goals as goal

pub returns-then-gates-ne0 : goal.returns-then-gates-ne0
returns-then-gates-ne0 c = let a = c.args in not-threes a.from a.at a.listed a.width a.input a.output a.gates.now _ c.if-gates-ne0.true c.fault.ensures

pub returns-then-gates-gt-MOST_GATES : goal.returns-then-gates-gt-MOST_GATES
returns-then-gates-gt-MOST_GATES c = let a = c.args in too_many a.from a.at a.listed a.width a.input a.output a.gates.now _ c.if-gates-ne0.false (omega (arith, c.if-gates-gt-MOST_GATES.true)) c.fault-then-gates-gt-MOST_GATES.ensures

pub returns-then-width-lt1 : goal.returns-then-width-lt1
returns-then-width-lt1 c = let a = c.args in no-wires a.from a.at a.listed a.width a.input a.output a.gates.now _ c.if-gates-ne0.false c.if-gates-gt-MOST_GATES.false c.if-width-lt1.true c.fault-then-width-lt1.ensures

pub returns-then-width-gt-MOST_WIRES : goal.returns-then-width-gt-MOST_WIRES
returns-then-width-gt-MOST_WIRES c = let a = c.args in many-wires a.from a.at a.listed a.width a.input a.output a.gates.now _ c.if-gates-ne0.false c.if-gates-gt-MOST_GATES.false c.if-width-lt1.false (omega (arith, c.if-width-gt-MOST_WIRES.true)) c.fault-then-width-gt-MOST_WIRES.ensures

pub returns-then-strings-input : goal.returns-then-strings-input
returns-then-strings-input c = let a = c.args in let n = strings a.width c.if-width-gt-MOST_WIRES.false in input-out a.from a.at a.listed a.width a.input a.output a.gates.now _ c.if-gates-ne0.false c.if-gates-gt-MOST_GATES.false c.if-width-lt1.false c.if-width-gt-MOST_WIRES.false (subst (λ (m : ℕ). m ≤ a.input) n c.if-strings-input.true) c.fault-then-strings-input.ensures

pub returns-then-strings-output : goal.returns-then-strings-output
returns-then-strings-output c = let a = c.args in let n = strings a.width c.if-width-gt-MOST_WIRES.false in output-out a.from a.at a.listed a.width a.input a.output a.gates.now _ c.if-gates-ne0.false c.if-gates-gt-MOST_GATES.false c.if-width-lt1.false c.if-width-gt-MOST_WIRES.false (subst (λ (m : ℕ). a.input < m) n c.if-strings-input.false) (subst (λ (m : ℕ). m ≤ a.output) n c.if-strings-output.true) c.fault-then-strings-output.ensures

pub returns : goal.returns
returns c = let a = c.args in let n = strings a.width c.if-width-gt-MOST_WIRES.false in head-sound a.from a.at a.listed a.width a.input a.output a.gates.now _ c.if-gates-ne0.false c.if-gates-gt-MOST_GATES.false c.if-width-lt1.false c.if-width-gt-MOST_WIRES.false (subst (λ (m : ℕ). a.input < m) n c.if-strings-input.false) (subst (λ (m : ℕ). a.output < m) n c.if-strings-output.false) refl

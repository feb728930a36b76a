-- `tested` meets its contract: the tests in their order.
use mathlib.Core.Logic.{⊎_elim}
use mathlib.Core.Path.{◌∙◌, subst}
use Prim.Native.Nat.{ℕ, ◌≤◌, ◌<◌}
use native.Mathlib.Omega.{arith}
use Rattle.circuit_number.proofs.Laws.Number.{not-threes, too_many, no-wires, many-wires, input-out, output-out, items_left, strings}
use Rattle.circuit_number.proofs.tested.Goals.{then-gates-ne0-via-then-gates-ne0, then-gates-ne0-via-else-gates-ne0+then-gates-gt-MOST_GATES, then-strings-input-via-then-strings-input, then-strings-input-via-else-strings-input+then-strings-output}
use Rattle.circuit_number.proofs.tested.Goals as goal

pub returns-then-gates-ne0 : goal.returns-then-gates-ne0
returns-then-gates-ne0 c =
    let a = c.args in
    elim c.then-gates-ne0.branch [ then-gates-ne0-via-then-gates-ne0 w ↦ not-threes a.dialect a.width a.input a.output a.gates.now w.if-gates-ne0.true | then-gates-ne0-via-else-gates-ne0+then-gates-gt-MOST_GATES w ↦ too_many a.dialect a.width a.input a.output a.gates.now w.if-gates-ne0.false (omega (arith, w.if-gates-gt-MOST_GATES.true)) ]

pub returns-then-width-lt-LEAST_WIRES : goal.returns-then-width-lt-LEAST_WIRES
returns-then-width-lt-LEAST_WIRES c =
    let a = c.args in
    ⊎_elim (no-wires a.dialect a.width a.input a.output a.gates.now c.if-gates-ne0.false c.if-gates-gt-MOST_GATES.false)
    (λ h. many-wires a.dialect a.width a.input a.output a.gates.now c.if-gates-ne0.false c.if-gates-gt-MOST_GATES.false h.0 (omega (arith, h.1)))
    c.then-width-lt-LEAST_WIRES.either

pub returns-then-strings-input : goal.returns-then-strings-input
returns-then-strings-input c =
    let a = c.args in
    let n = strings a.width c.if-width-gt-MOST_WIRES.false in
    elim c.then-strings-input.branch [ then-strings-input-via-then-strings-input w ↦ input-out a.dialect a.width a.input a.output a.gates.now c.if-gates-ne0.false c.if-gates-gt-MOST_GATES.false c.if-width-lt-LEAST_WIRES.false c.if-width-gt-MOST_WIRES.false (subst (λ (m : ℕ). m ≤ a.input) n w.if-strings-input.true) | then-strings-input-via-else-strings-input+then-strings-output w ↦ output-out a.dialect a.width a.input a.output a.gates.now c.if-gates-ne0.false c.if-gates-gt-MOST_GATES.false c.if-width-lt-LEAST_WIRES.false c.if-width-gt-MOST_WIRES.false (subst (λ (m : ℕ). a.input < m) n w.if-strings-input.false) (subst (λ (m : ℕ). m ≤ a.output) n w.if-strings-output.true) ]

pub returns : goal.returns
returns c =
    let a = c.args in
    let n = strings a.width c.if-width-gt-MOST_WIRES.false in
    c.test_items.ensures ∙ items_left a.dialect a.width a.input a.output a.gates.now c.if-gates-ne0.false c.if-gates-gt-MOST_GATES.false c.if-width-lt-LEAST_WIRES.false c.if-width-gt-MOST_WIRES.false (subst (λ (m : ℕ). a.input < m) n c.if-strings-input.false) (subst (λ (m : ℕ). a.output < m) n c.if-strings-output.false)

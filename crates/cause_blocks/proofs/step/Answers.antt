-- `step` meets its contract: field by field.
use native.Mathlib.Omega.{arith}
use Rattle.cause_blocks.proofs.Laws.Ways.{step-outermost, step-open, step-close, step_other}
use Rattle.cause_blocks.proofs.step.Goals as goal

pub returns-then-s-eq-MOST_DEEP : goal.returns-then-s-eq-MOST_DEEP
returns-then-s-eq-MOST_DEEP c = let a = c.args in step-outermost a.code a.j a.s c.if-code-eq64.true c.if-s-eq-MOST_DEEP.true

pub overflow_sub-result : goal.overflow_sub-result
overflow_sub-result c = let ne = c.requires.room c.if-code-eq64.true in omega (arith, ne)

pub returns-then-code-eq64 : goal.returns-then-code-eq64
returns-then-code-eq64 c = let a = c.args in step-open a.code a.j a.s c.if-code-eq64.true c.if-s-eq-MOST_DEEP.false

pub overflow_add-result : goal.overflow_add-result
overflow_add-result c = omega (arith, c.requires.few)

pub returns-then-code-eq65 : goal.returns-then-code-eq65
returns-then-code-eq65 c = let a = c.args in step-close a.code a.j a.s c.if-code-eq64.false c.if-code-eq65.true

pub returns : goal.returns
returns c = let a = c.args in step_other a.code a.j a.s c.if-code-eq64.false c.if-code-eq65.false

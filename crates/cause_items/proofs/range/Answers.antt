-- `range` meets its contract: by the code, then by the second byte.
use Rattle.cause_items.proofs.Laws.Ways.{stray-open, no-count, stray-close, stray-wire, outcome, second-byte}
use Rattle.cause_items.proofs.range.Goals as goal

pub returns-then-second-ne0 : goal.returns-then-second-ne0
returns-then-second-ne0 c = let a = c.args in stray-open a.byte a.j a.code a.second _ c.if-code-eq64.true c.if-second-ne0.true c.fault.ensures

pub returns-then-code-eq64 : goal.returns-then-code-eq64
returns-then-code-eq64 c = let a = c.args in no-count a.byte a.j a.code a.second _ c.if-code-eq64.true c.if-second-ne0.false c.fault-then-code-eq64.ensures

pub returns-then-second-ne0-2 : goal.returns-then-second-ne0-2
returns-then-second-ne0-2 c = let a = c.args in stray-close a.byte a.j a.code a.second _ c.if-code-eq64.false c.if-code-eq65.true c.if-second-ne0-2.true c.fault-then-second-ne0-2.ensures

pub returns-then-code-eq65 : goal.returns-then-code-eq65
returns-then-code-eq65 c = let a = c.args in stray-wire a.byte a.j a.code a.second _ c.if-code-eq64.false c.if-code-eq65.true c.if-second-ne0-2.false c.fault-then-code-eq65.ensures

pub returns-then-code-eq-MEASURED : goal.returns-then-code-eq-MEASURED
returns-then-code-eq-MEASURED c = let a = c.args in outcome a.byte a.j a.code a.second _ c.if-code-eq64.false c.if-code-eq65.false c.if-code-eq-MEASURED.true c.fault-then-code-eq-MEASURED.ensures

pub returns : goal.returns
returns c = let a = c.args in second-byte a.byte a.j a.code a.second _ c.if-code-eq64.false c.if-code-eq65.false c.if-code-eq-MEASURED.false c.fault-2.ensures

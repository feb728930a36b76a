-- `refine` meets its contract: by the number.
use mathlib.Core.Path.{refl}
use Rattle.cause_items.proofs.Laws.Ways.{code-unknown, first-wire, second-wire, same-wire, out_of_range, no-fault}
use Rattle.cause_items.proofs.refine.Goals as goal

pub returns-then-k-eq-UNKNOWN_CODE : goal.returns-then-k-eq-UNKNOWN_CODE
returns-then-k-eq-UNKNOWN_CODE c = let a = c.args in code-unknown a.byte a.j a.width a.k a.code a.wire a.second _ c.if-k-eq-UNKNOWN_CODE.true c.fault.ensures

pub returns-then-width-wire : goal.returns-then-width-wire
returns-then-width-wire c = let a = c.args in first-wire a.byte a.j a.width a.k a.code a.wire a.second _ c.if-k-eq-UNKNOWN_CODE.false c.if-k-eq-BAD_WIRE.true c.if-width-wire.true c.fault-then-width-wire.ensures

pub returns-then-k-eq-BAD_WIRE : goal.returns-then-k-eq-BAD_WIRE
returns-then-k-eq-BAD_WIRE c = let a = c.args in second-wire a.byte a.j a.width a.k a.code a.wire a.second _ c.if-k-eq-UNKNOWN_CODE.false c.if-k-eq-BAD_WIRE.true c.if-width-wire.false c.fault-then-k-eq-BAD_WIRE.ensures

pub returns-then-k-eq-TWICE : goal.returns-then-k-eq-TWICE
returns-then-k-eq-TWICE c = let a = c.args in same-wire a.byte a.j a.width a.k a.code a.wire a.second _ c.if-k-eq-UNKNOWN_CODE.false c.if-k-eq-BAD_WIRE.false c.if-k-eq-TWICE.true c.fault-then-k-eq-TWICE.ensures

pub returns-then-k-eq-OUT_OF_RANGE : goal.returns-then-k-eq-OUT_OF_RANGE
returns-then-k-eq-OUT_OF_RANGE c = let a = c.args in out_of_range a.byte a.j a.width a.k a.code a.wire a.second _ c.if-k-eq-UNKNOWN_CODE.false c.if-k-eq-BAD_WIRE.false c.if-k-eq-TWICE.false c.if-k-eq-OUT_OF_RANGE.true c.range.ensures

pub returns : goal.returns
returns c = let a = c.args in no-fault a.byte a.j a.width a.k a.code a.wire a.second _ c.if-k-eq-UNKNOWN_CODE.false c.if-k-eq-BAD_WIRE.false c.if-k-eq-TWICE.false c.if-k-eq-OUT_OF_RANGE.false refl

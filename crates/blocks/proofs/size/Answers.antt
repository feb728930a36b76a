-- `size` meets its contract: items to the end are read at the top, where a close is a fault.
use native.Mathlib.Omega.{arith}
use mathlib.Core.Path.{refl}
use Rattle.blocks.proofs.Laws.Steps.{rest-top}
use Rattle.blocks.proofs.Laws.Spans.{seen_more, seen-fault, whole-fault, whole_long, whole-good}
use Rattle.blocks.proofs.size.Goals as goal

pub returns-then-top-eq65 : goal.returns-then-top-eq65
returns-then-top-eq65 c = whole-fault _ (seen-fault _ 0 8 _ _ c.loop-at.invariant (rest-top _ _ 8 (omega arith) c.if-top-eq65.true refl))

pub returns-in_err-span : goal.returns-in_err-span
returns-in_err-span c = rw c.from_residual.ensures (whole-fault _ (seen-fault _ 0 8 _ _ c.loop-at.invariant c.in_err-span.ensures))

pub loop-at-preserved : goal.loop-at-preserved
loop-at-preserved c = rw c.capped-size.ensures (seen_more _ _ _ _ _ _ _ c.loop-at.invariant c.in_ok-span.ensures)

pub returns-then-size-gt-MOST_EXPANDED : goal.returns-then-size-gt-MOST_EXPANDED
returns-then-size-gt-MOST_EXPANDED c = whole_long _ _ _ c.loop-at.invariant (omega arith) c.if-size-gt-MOST_EXPANDED.true

pub returns : goal.returns
returns c = whole-good _ _ _ c.loop-at.invariant (omega arith) (omega (arith, c.if-size-gt-MOST_EXPANDED.false))

-- The two readers call each other and meet their contracts: the depth falls from block to item to block again, and each loop has seen the items so far.
use native.Mathlib.Omega.{arith}
use Rattle.blocks.proofs.Laws.Spans.{seen_more, seen-close, seen_end, item-plain, item-deep, item-fault, item-hollow, item-block}
use Rattle.blocks.proofs.+block_item.Goals as goal

pub block-returns-then-code-eq65 : goal.block-returns-then-code-eq65
block-returns-then-code-eq65 t c = seen-close _ _ _ _ _ c.loop-at.invariant (omega arith) c.if-code-eq65.true c.requires.1

pub block-loop-at-preserved : goal.block-loop-at-preserved
block-loop-at-preserved t c = rw c.capped-size.ensures (seen_more _ _ _ _ _ _ _ c.loop-at.invariant c.in_ok-span.ensures)

pub block-returns : goal.block-returns
block-returns t c = seen_end _ _ _ _ _ c.loop-at.invariant (omega arith) c.requires.1

pub item-returns-then-code-ne64 : goal.item-returns-then-code-ne64
item-returns-then-code-ne64 t c = item-plain _ _ _ c.requires c.if-code-ne64.true

pub item-returns-then-depth-eq0 : goal.item-returns-then-depth-eq0
item-returns-then-depth-eq0 t c = item-deep _ _ _ c.requires c.if-code-ne64.false c.if-depth-eq0.true

pub item-returns-in_err-span : goal.item-returns-in_err-span
item-returns-in_err-span t c = rw c.from_residual.ensures (item-fault _ _ _ c.requires c.if-code-ne64.false c.if-depth-eq0.false c.in_err-span.ensures)

pub item-returns-then-span-eq0 : goal.item-returns-then-span-eq0
item-returns-then-span-eq0 t c = item-hollow _ _ _ c.requires c.if-code-ne64.false c.if-depth-eq0.false _ _ c.in_ok-span.ensures c.if-span-eq0.true

pub item-returns : goal.item-returns
item-returns t c = rw (c.capped.ensures, c.from.ensures) (item-block _ _ _ c.requires c.if-code-ne64.false c.if-depth-eq0.false _ _ c.in_ok-span.ensures c.if-span-eq0.false)

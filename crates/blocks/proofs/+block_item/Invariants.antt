-- The two readers call each other: the depth falls from block to item to block again, and the loop has seen the items so far.
use Rattle.std.proofs.Common.{◌+◌, ◌-◌}
use Rattle.blocks.specs.Inner.Spans.{Seen}
use Rattle.blocks.proofs.+block_item.Given as goal

abbrev pub decreases-block : goal.decreases-block
decreases-block l = l.depth + l.depth + 1

abbrev pub decreases-item : goal.decreases-item
decreases-item l = l.depth + l.depth

abbrev pub invariant-block-loop-at : goal.invariant-block-loop-at
invariant-block-loop-at l = Seen l.items l.j l.depth l.at l.size

abbrev pub decreases-block-loop-at : goal.decreases-block-loop-at
decreases-block-loop-at l = l.count - l.at

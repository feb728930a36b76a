-- `size` meets its contract: items to the end are read at the top, where a close is a fault.
use Prim.Native.Nat.{◌-◌}
use Rattle.blocks.specs.Inner.Spans.{Seen}
use Rattle.blocks.proofs.size.Given as goal

abbrev pub invariant-loop-at : goal.invariant-loop-at
invariant-loop-at l = Seen l.items 0 8 l.at l.size

abbrev pub decreases-loop-at : goal.decreases-loop-at
decreases-loop-at l = l.count - l.at

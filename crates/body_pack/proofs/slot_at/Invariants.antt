-- `slot_at` meets its contract: as many live slots as `below` counts were passed, and none of them is the one.
use mathlib.Core.Path.{◌≡◌}
use Prim.Native.Nat.{◌≤◌}
use Rattle.body_pack.specs.Slot.{rank}
use Rattle.body_pack.proofs.slot_at.Given as goal

abbrev pub invariant-loop-v : goal.invariant-loop-v
invariant-loop-v l = (l.below ≡ rank l.live l.v) × (l.below ≤ l.i)

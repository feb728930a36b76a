-- `packed_mask` meets its contract: the bits of the live slots below v are packed, i of them.
use mathlib.Core.Path.{◌≡◌}
use Rattle.body_pack.specs.Slot.{rank}
use Rattle.body_pack.proofs.Laws.Mask.{packed_to}
use Rattle.body_pack.proofs.packed_mask.Given as goal

abbrev pub invariant-loop-v : goal.invariant-loop-v
invariant-loop-v l = (l.i ≡ rank l.live l.v) × (l.r ≡ packed_to l.live l.m l.i)

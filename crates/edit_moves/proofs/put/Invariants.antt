-- `put` meets its contract: the first i bytes are put.
use Prim.Native.Nat.{◌+◌, ◌-◌, ◌≤◌}
use lib.ListN.{length}
use Rattle.edit_moves.specs.Inner.Held.{Holds, of}
use Rattle.edit_moves.proofs.put.Given as goal

abbrev pub invariant-loop-i : goal.invariant-loop-i
invariant-loop-i l = (l.i ≤ length l.body) × Holds (of l.body l.at) l.at (l.at + l.i) l.initial.area l.area

abbrev pub decreases-loop-i : goal.decreases-loop-i
decreases-loop-i l = length l.body - l.i

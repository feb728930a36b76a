-- `first` meets its contract: the invariant says that the first fault is that of the items from j on.
use mathlib.Core.Path.{◌≡◌}
use Prim.Native.Nat.{◌≤◌, ◌-◌}
use Rattle.cause_blocks.specs.Blocks.{scan_found, start}
use Rattle.cause_blocks.proofs.first.Given as goal

abbrev pub invariant-loop-j : goal.invariant-loop-j
invariant-loop-j l = (l.s.more ≤ 8) × (l.s.outer ≤ l.count) × (scan_found l.at l.items l.count 0 start ≡ scan_found l.at l.items (l.count - l.j) l.j l.s)

-- `read` meets its contract: the lists of the first i bodies are read.
use mathlib.Core.Path.{◌≡◌}
use Prim.Native.Nat.{◌≤◌}
use lib.ListN.{length}
use Rattle.edit_plans.specs.Inner.Lists.{Upto}
use Rattle.edit_plans.proofs.read.Given as goal

abbrev pub invariant-loop-i : goal.invariant-loop-i
invariant-loop-i l = (l.i ≤ l.count) × Upto l.book l.i l.j l.kinds l.widths l.lengths × (length l.kinds ≡ 16) × (length l.widths ≡ 16) × (length l.lengths ≡ 16)

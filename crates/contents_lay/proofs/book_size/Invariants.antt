-- `book_size` meets its contract: the invariant is of where body i starts.
use mathlib.Core.Path.{◌≡◌}
use Prim.Native.Nat.{◌≤◌, ◌+◌, ◌*◌}
use lib.ListN.{length}
use Rattle.contents_lay.specs.Lay.{laid_start}
use Rattle.contents_lay.proofs.book_size.Given as goal

abbrev pub invariant-loop-i : goal.invariant-loop-i
invariant-loop-i l = (l.i ≤ length l.lengths) × (l.size ≡ laid_start l.lengths l.i) × (l.size ≤ 132 + 65535 * l.i)

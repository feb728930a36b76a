-- `test` meets its contract: the invariant says that no entry below j is refused and where the next body is to start.
use mathlib.Core.Path.{◌≡◌}
use mathlib.Core.Bool.{false}
use Prim.Native.Nat.{◌≤◌}
use Rattle.contents.specs.Contents.{body_start, any_below, entry_fault}
use Rattle.contents.proofs.test.Given as goal

abbrev pub invariant-loop-j : goal.invariant-loop-j
invariant-loop-j l = (l.j ≤ l.n) × (l.at ≡ body_start l.bs l.j) × (any_below l.j (entry_fault l.bs) ≡ false)

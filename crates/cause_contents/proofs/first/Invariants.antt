-- `first` meets its contract: the invariant says that no entry below j is at fault and where the next body is to start.
use mathlib.Core.Path.{◌≡◌}
use Rattle.contents.specs.Contents.{body_start}
use Rattle.cause.specs.Cause.{sound, first_below}
use Rattle.cause_contents.specs.Contents.{entry_at}
use Rattle.cause_contents.proofs.first.Given as goal

abbrev pub invariant-loop-j : goal.invariant-loop-j
invariant-loop-j l = (l.at ≡ body_start l.bs l.j) × (first_below l.j (entry_at l.bs) ≡ sound)

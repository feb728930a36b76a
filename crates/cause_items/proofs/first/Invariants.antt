-- `first` meets its contract: no item below j is at fault.
use mathlib.Core.Path.{◌≡◌}
use Rattle.cause.specs.Cause.{sound, first_below}
use Rattle.cause_items.specs.Items.{item_found}
use Rattle.cause_items.proofs.first.Given as goal

abbrev pub invariant-loop-j : goal.invariant-loop-j
invariant-loop-j l = first_below l.j (item_found l.at l.dialect l.width l.items) ≡ sound

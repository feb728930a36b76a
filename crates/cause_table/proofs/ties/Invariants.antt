-- `ties` meets its contract: no tie below j is at fault.
use mathlib.Core.Path.{◌≡◌}
use Rattle.cause.specs.Cause.{sound, first_below}
use Rattle.cause_table.specs.Table.{tie_found}
use Rattle.cause_table.proofs.ties.Given as goal

abbrev pub invariant-loop-j : goal.invariant-loop-j
invariant-loop-j l = first_below l.j (tie_found l.from l.width l.bs) ≡ sound

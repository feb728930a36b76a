-- `rows` meets its contract: no row below v is out of range.
use mathlib.Core.Path.{◌≡◌}
use Rattle.cause.specs.Cause.{sound, first_below}
use Rattle.cause_table.specs.Table.{row_found}
use Rattle.cause_table.proofs.rows.Given as goal

abbrev pub invariant-loop-v : goal.invariant-loop-v
invariant-loop-v l = first_below l.v (row_found l.from l.width l.bs) ≡ sound

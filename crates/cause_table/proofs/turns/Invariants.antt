-- `turns` meets its contract: no turn below v is out of range.
use mathlib.Core.Path.{◌≡◌}
use Rattle.cause.specs.Cause.{sound, first_below}
use Rattle.cause_table.specs.Table.{turn_found}
use Rattle.cause_table.proofs.turns.Given as goal

abbrev pub invariant-loop-v : goal.invariant-loop-v
invariant-loop-v l = first_below l.v (turn_found l.from l.bs) ≡ sound

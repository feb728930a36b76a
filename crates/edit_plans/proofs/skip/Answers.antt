-- `skip` meets its contract: by the test.
use mathlib.Core.Path.{sym, ◌∙◌}
use native.Mathlib.Omega.{arith}
use native.Mathlib.Numerals.{add-one}
use Rattle.edit_numbers.proofs.Laws.Parts.{skip_below, skip-from}
use Rattle.edit_plans.proofs.skip.Goals as goal

pub returns-then-i-j : goal.returns-then-i-j
returns-then-i-j c = let a = c.args in sym (skip_below a.j a.i (omega arith))

pub returns-else-i-j : goal.returns-else-i-j
returns-else-i-j c = let a = c.args in add-one a.i ∙ sym (skip-from a.j a.i (omega arith))

-- `scale` meets its contract: its call is that on the table, with the power as the word reads it.
use mathlib.Core.Path.{subst}
use borrow.Author.Rules.{rules}
use lib.IntN.{ℤ}
use mir.Syntax.{w32}
use mir.ValLaws.{to_z-of_z}
use Rattle.table.specs.Answers.{ScaleCall}
use Rattle.table.specs.declared.Changed.{Changed}
use Rattle.told_tables.specs.Called.{bytes_of, Called}
use Rattle.told_tables.proofs.Laws.Called.{called-as}
use Rattle.told_tables_moves.proofs.scale.Goals as goal

pub returns : goal.returns
returns c =
    subst
    (λ (z : ℤ). Called c.args.area.now (λ t. ScaleCall t z c.args.p) (λ (r : Changed). r.refusal) (λ r. bytes_of r.table) c.args.area.now c.changed.result c.changed.new.area)
    (to_z-of_z w32 c.args.m c.ranges.m) (called-as _ _ _ _ _ _ _ _ (λ t r e. search rules) c.changed.ensures)

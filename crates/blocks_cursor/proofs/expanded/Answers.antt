-- `expanded` meets its contract: at the front the whole expansion is left.
use mathlib.Core.Path.{sym, ap, ◌∙◌, subst}
use Rattle.blocks_cursor.specs.Inner.Cursor.{todo_at, Held}
use Rattle.blocks_cursor.proofs.Laws.Front.{front-todo, front-held}
use Rattle.blocks_cursor.proofs.expanded.Goals as goal

pub invariant_of-result : goal.invariant_of-result
invariant_of-result c = subst (Held c.args.items.now) (sym c.begun.ensures) (front-held c.args.items.now c.requires)

pub returns : goal.returns
returns c = ap (todo_at c.args.items.now) c.begun.ensures ∙ front-todo c.args.items.now

-- `next` meets its contract: the marks passed leave as much to do as before.
use mathlib.Core.Path.{◌≡◌}
use Rattle.blocks_cursor.specs.Inner.Cursor.{todo_at, Held, ahead}
use Rattle.blocks_cursor.proofs.ExpansionIterator.next.Given as goal

abbrev pub invariant-loop-self : goal.invariant-loop-self
invariant-loop-self l = (l.self-inside.items.now ≡ l.items) × Held l.items l.self-inside.cursor × (todo_at l.items l.self-inside.cursor ≡ l.fn.self)

abbrev pub decreases-loop-self : goal.decreases-loop-self
decreases-loop-self l = ahead l.items l.self-inside.cursor

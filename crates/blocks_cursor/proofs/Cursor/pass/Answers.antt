-- `pass` meets its contract: a mark opens a block or closes one, and as much is left to do.
use mathlib.Core.Path.{sym, subst}
use native.Mathlib.Omega.{arith}
use Rattle.blocks_cursor.specs.Inner.Cursor.{Passes}
use Rattle.blocks_cursor.proofs.Laws.Cursor.{open-room, close-room, enter-law, leave-law}
use Rattle.blocks_cursor.proofs.Cursor.pass.Goals as goal

pub enter-requires : goal.enter-requires
enter-requires c =
    let H = c.requires.at.held in
    let t = c.if-code-eq64.true in
    (omega (arith, c.requires.at.range, H.few), open-room c.args.items.now _ c.requires.at t, H.counts _ c.requires.at.range t)

pub returns-then-code-eq64 : goal.returns-then-code-eq64
returns-then-code-eq64 c = subst (Passes c.args.items.now c.args.self.now) (sym c.enter.ensures) (enter-law c.args.items.now c.args.self.now c.requires.at c.if-code-eq64.true)

pub leave-requires : goal.leave-requires
leave-requires c =
    let H = c.requires.at.held in
    (omega (arith, c.requires.at.range, H.few), close-room c.args.items.now _ c.requires.at (c.requires.mark c.if-code-eq64.false), H.deep)

pub returns : goal.returns
returns c = subst (Passes c.args.items.now c.args.self.now) (sym c.leave.ensures) (leave-law c.args.items.now c.args.self.now c.requires.at (c.requires.mark c.if-code-eq64.false))

-- `mark` meets its contract: by the code, then by what is known before the item.
use mathlib.Core.Path.{refl}
use Rattle.cause_blocks.proofs.Laws.Ways.{mark-none, mark-room, mark-deep, mark-unopened, mark-empty, mark-closes}
use Rattle.cause_blocks.proofs.mark.Goals as goal

pub returns-then-code-ne64 : goal.returns-then-code-ne64
returns-then-code-ne64 c = let a = c.args in mark-none a.at a.code a.j a.s _ c.if-code-ne65.true c.if-code-ne64.true refl

pub returns-then-s-ne0 : goal.returns-then-s-ne0
returns-then-s-ne0 c = let a = c.args in mark-room a.at a.code a.j a.s _ c.if-code-ne65.true c.if-s-ne0.true refl

pub returns-then-code-ne65 : goal.returns-then-code-ne65
returns-then-code-ne65 c = let a = c.args in mark-deep a.at a.code a.j a.s _ c.if-code-ne64.false c.if-s-ne0.false c.fault.ensures

pub returns-then-s-eq-MOST_DEEP : goal.returns-then-s-eq-MOST_DEEP
returns-then-s-eq-MOST_DEEP c = let a = c.args in mark-unopened a.at a.code a.j a.s _ c.if-code-ne65.false c.if-s-eq-MOST_DEEP.true c.fault-then-s-eq-MOST_DEEP.ensures

pub returns-then-s : goal.returns-then-s
returns-then-s c = let a = c.args in mark-empty a.at a.code a.j a.s _ c.if-code-ne65.false c.if-s-eq-MOST_DEEP.false c.if-s.true c.fault-then-s.ensures

pub returns : goal.returns
returns c = let a = c.args in mark-closes a.at a.code a.j a.s _ c.if-code-ne65.false c.if-s-eq-MOST_DEEP.false c.if-s.false refl

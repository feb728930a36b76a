-- `leave` meets its contract: the block is done, or begins again.
use Rattle.blocks_cursor.proofs.Laws.Cursor.{outside-out, outside-again}
use Rattle.blocks_cursor.proofs.Cursor.leave.Goals as goal

pub returns-then-more-eq0 : goal.returns-then-more-eq0
returns-then-more-eq0 c = outside-out c.args.self.now c.if-more-eq0.true

pub returns : goal.returns
returns c = outside-again c.args.self.now c.if-more-eq0.false

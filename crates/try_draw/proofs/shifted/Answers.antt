-- `shifted` meets its contract: the code is the definition.
use Rattle.std.proofs.Common.{rules}
use Rattle.try_draw.specs.Word.{left, right, round}
use Rattle.try_draw.proofs.shifted.Goals as goal

pub returns : goal.returns
unfolding left right round
returns c = search rules

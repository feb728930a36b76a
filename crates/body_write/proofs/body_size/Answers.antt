-- `body_size` meets its contract: the length of the body.
use native.Mathlib.Omega.{arith}
use Rattle.body_write.proofs.Laws.Body.{length-body}
use Rattle.body_write.proofs.body_size.Goals as goal

pub returns : goal.returns
returns c = omega (arith, length-body c.args.t, c.count.ensures.is)

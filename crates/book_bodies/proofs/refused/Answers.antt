-- `refused` meets its contract: the fresh table beside the number.
use mathlib.Core.Path.{ap}
use Rattle.book_bodies.specs.Answer.{Refused, body}
use Rattle.book_bodies.proofs.refused.Goals as goal

pub returns : goal.returns
returns c = ap (body (Refused c.args.k)) c.fresh.ensures

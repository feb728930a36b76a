-- `amplitude` meets its contract: a refusal is told by its number.
use Rattle.told.proofs.Laws.Number.{answer-numbered}
use Rattle.told_bodies.proofs.amplitude.Goals as goal

pub returns : goal.returns
returns c = record { answer = c.amplitude.result; is = c.amplitude.ensures; tells = answer-numbered _ _ _ _ _ c.map_err-a.ensures.cases c.answer.ensures }

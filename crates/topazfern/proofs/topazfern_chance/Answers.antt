-- `topazfern_chance` meets its contract: a refused record is told by the number of its refusal.
use Rattle.told.proofs.Laws.Number.{chance-numbered}
use Rattle.topazfern.proofs.topazfern_chance.Goals as goal

pub returns : goal.returns
returns c = record { answer = c.chance_of.result; is = c.chance_of.ensures; tells = chance-numbered _ _ _ _ _ c.map_err-a.ensures.cases c.chance.ensures }

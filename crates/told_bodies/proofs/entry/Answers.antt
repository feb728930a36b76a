-- `entry` meets its contract: a body that is read tells its entry, a refusal by its number.
use Rattle.told.proofs.Laws.Number.{answer-numbered}
use Rattle.told_bodies.proofs.entry.Goals as goal

pub returns : goal.returns
returns c = record {
  reading = c.read-r.result;
  reads = c.read-r.ensures;
  refused = λ ne. absurd (ne c.if-refusal-ne0.false);
  given = λ z. record { answer = c.entry.result; is = c.entry.ensures; tells = answer-numbered _ _ _ _ _ c.map_err-a.ensures.cases c.answer.ensures };
}

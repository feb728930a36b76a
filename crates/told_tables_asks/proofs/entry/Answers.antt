-- `entry` meets its contract: a table that is read tells its entry, a refusal by its number.
use mathlib.Core.Path.{subst}
use Rattle.table.specs.declared.Table.{Table}
use Rattle.table.specs.Answers.{EntryAt}
use Rattle.told.proofs.Laws.Number.{answer-numbered}
use Rattle.told_tables_asks.proofs.entry.Goals as goal

pub returns : goal.returns
returns c = record {
  reading = c.read-r.result;
  reads = c.read-r.ensures;
  refused = λ ne. absurd (ne c.if-refusal-ne0.false);
  given = λ z. record {
    answer = c.entry.result;
    is = subst (λ (t : Table). EntryAt t c.args.x c.entry.result) c.held-t.ensures c.entry.ensures;
    tells = answer-numbered _ _ _ _ _ c.map_err-a.ensures.cases c.answer.ensures;
  };
}

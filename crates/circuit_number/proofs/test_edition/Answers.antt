-- `test_edition` meets its contract: the test of the edition, on either way.
use mathlib.Core.Path.{sym, ◌∙◌}
use Rattle.circuit_number.proofs.Laws.Number.{edition-good, edition-none}
use Rattle.circuit_number.proofs.test_edition.Goals as goal

pub returns-then-good_edition : goal.returns-then-good_edition
returns-then-good_edition c = edition-good _ (sym c.good_edition.ensures ∙ c.if-good_edition.true)

pub returns : goal.returns
returns c = edition-none _ (sym c.good_edition.ensures ∙ c.if-good_edition.false)

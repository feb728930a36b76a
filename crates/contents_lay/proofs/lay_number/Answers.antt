-- `lay_number` meets its contract: test by test.
use mathlib.Core.Path.{sym, ◌∙◌}
use borrow.Author.Tests.{not-true, not-false}
use native.Mathlib.Omega.{arith}
use Rattle.contents_lay.proofs.Laws.Lay.{few, lay-edition, lay-nine, lay-ten, lay-thirteen, lay-zero}
use Rattle.contents_lay.proofs.lay_number.Goals as goal

pub returns-then-not-good_edition : goal.returns-then-not-good_edition
returns-then-not-good_edition c = lay-edition _ _ _ _ _ (sym c.good_edition.ensures ∙ not-true c.good_edition.result c.if-not-good_edition.true-raw)

pub returns-then-too_many : goal.returns-then-too_many
returns-then-too_many c = lay-nine _ _ _ _ _ (sym c.good_edition.ensures ∙ not-false c.good_edition.result c.if-not-good_edition.false-raw) (sym c.too_many.ensures ∙ c.if-too_many.true)

pub bad_lists-requires : goal.bad_lists-requires
bad_lists-requires c = (few _ _ _ (sym c.too_many.ensures ∙ c.if-too_many.false)).2

pub returns-then-bad_lists : goal.returns-then-bad_lists
returns-then-bad_lists c =
    lay-ten _ _ _ _ _ (sym c.good_edition.ensures ∙ not-false c.good_edition.result c.if-not-good_edition.false-raw) (sym c.too_many.ensures ∙ c.if-too_many.false) (sym c.bad_lists.ensures ∙ c.if-bad_lists.true)

pub overflow_mul-kinds : goal.overflow_mul-kinds
overflow_mul-kinds c = let h = few _ _ _ (sym c.too_many.ensures ∙ c.if-too_many.false) in omega (arith, h.0)

pub overflow_add-kinds : goal.overflow_add-kinds
overflow_add-kinds c = let h = few _ _ _ (sym c.too_many.ensures ∙ c.if-too_many.false) in omega (arith, h.0)

pub returns-then-room-kinds : goal.returns-then-room-kinds
returns-then-room-kinds c =
    lay-thirteen _ _ _ _ _ (sym c.good_edition.ensures ∙ not-false c.good_edition.result c.if-not-good_edition.false-raw) (sym c.too_many.ensures ∙ c.if-too_many.false) (sym c.bad_lists.ensures ∙ c.if-bad_lists.false) (omega arith)

pub returns : goal.returns
returns c =
    lay-zero _ _ _ _ _ (sym c.good_edition.ensures ∙ not-false c.good_edition.result c.if-not-good_edition.false-raw) (sym c.too_many.ensures ∙ c.if-too_many.false) (sym c.bad_lists.ensures ∙ c.if-bad_lists.false) (omega arith)

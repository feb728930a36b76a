-- `entry` meets its contract: test by test.
use mathlib.Core.Bool.{not}
use mathlib.Core.Path.{refl, sym, ap, ◌∙◌}
use Prim.Native.Nat.{◌+◌}
use native.Mathlib.Omega.{arith}
use borrow.Author.Tests.{lt-ltb, le-ltb, eq-eqb, ne_eqb, not-true, not-false}
use Rattle.cause.proofs.Laws.First.{pick, pass, no_more}
use Rattle.cause_contents.specs.Contents.{entry_found}
use Rattle.cause_contents.proofs.entry.Goals as goal

pub returns-then-not-good_kind : goal.returns-then-not-good_kind
unfolding entry_found
returns-then-not-good_kind c = pick _ _ _ _ c.fault.ensures (ap not (sym c.good_kind.ensures ∙ not-true c.good_kind.result c.if-not-good_kind.true-raw))

pub returns-then-e-from : goal.returns-then-e-from
unfolding entry_found
returns-then-e-from c = let a = c.args in pass _ _ _ _ (ap not (sym c.good_kind.ensures ∙ not-false c.good_kind.result c.if-not-good_kind.false-raw)) (pick _ _ _ _ c.fault-then-e-from.ensures (ap not (ne_eqb a.e.start a.from c.if-e-from.true)))

pub returns-then-size-e : goal.returns-then-size-e
unfolding entry_found
returns-then-size-e c = let a = c.args in pass _ _ _ _ (ap not (sym c.good_kind.ensures ∙ not-false c.good_kind.result c.if-not-good_kind.false-raw)) (pass _ _ _ _ (ap not (eq-eqb a.e.start a.from (omega arith))) (pick _ _ _ _ c.fault-then-size-e.ensures (lt-ltb a.size (a.e.start + a.e.length) (omega arith))))

pub returns-then-size-e-2 : goal.returns-then-size-e-2
unfolding entry_found
returns-then-size-e-2 c = let a = c.args in pass _ _ _ _ (ap not (sym c.good_kind.ensures ∙ not-false c.good_kind.result c.if-not-good_kind.false-raw)) (pass _ _ _ _ (ap not (eq-eqb a.e.start a.from (omega arith))) (pick _ _ _ _ c.fault-then-size-e-2.ensures (lt-ltb a.size (a.e.start + a.e.length) (omega arith))))

pub returns : goal.returns
unfolding entry_found
returns c = let a = c.args in pass _ _ _ _ (ap not (sym c.good_kind.ensures ∙ not-false c.good_kind.result c.if-not-good_kind.false-raw)) (pass _ _ _ _ (ap not (eq-eqb a.e.start a.from (omega arith))) (pass _ _ _ _ (le-ltb a.size (a.e.start + a.e.length) (omega arith)) (no_more _ refl)))

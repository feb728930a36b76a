-- `bad_kind` meets its contract: each kind is tested in turn.
use mathlib.Core.Path.{◌≡◌}
use mathlib.Core.Bool.{true, false, not}
use borrow.Author.Rules.{rules}
use borrow.Author.Tests.{tests}
use Rattle.std.proofs.lemmas.Iterator.{cases_from_any, YieldsList-from_slice}
use Rattle.contents.specs.Contents.{good_kind}
use Rattle.contents_lay.proofs.Laws.Any.{any-tested}
use Rattle.contents_lay.proofs.bad_kind.Goals as goal

pub returns : goal.returns
returns c =
    let a = c.args in
    any-tested (λ k. not (good_kind a.edition k)) a.kinds.now _ (cases_from_any _ _ _ (λ k. not (good_kind a.edition k) ≡ true) (λ k. not (good_kind a.edition k) ≡ false) c.any.ensures.ran (YieldsList-from_slice a.kinds.now cc) (λ x q k. search (rules, tests)) (λ x q k. search (rules, tests)))

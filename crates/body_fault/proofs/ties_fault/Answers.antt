-- `ties_fault` meets its contract: the test of each tie in turn.
use mathlib.Core.Path.{ap, ◌∙◌}
use Prim.Native.Nat.{ℕ}
use borrow.Author.Rules.{rules}
use Rattle.contents.specs.Contents.{any_below}
use Rattle.body_bytes.specs.Body.{tie_fault}
use Rattle.body_bytes.proofs.Laws.Any.{any-tested}
use Rattle.body_fault.proofs.ties_fault.Goals as goal

pub returns : goal.returns
returns c =
    let f = tie_fault c.args.width c.args.bs.now in
    any-tested f c.count_of.result (λ x b q e. search rules) _ _ c.any.ensures.ran ∙ ap (λ (n : ℕ). any_below n f) c.count_of.ensures

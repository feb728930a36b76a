-- `read` meets its contract: the lists of the first i bodies are read.
use mathlib.Core.Path.{◌≡◌, refl, ap, ◌∙◌, subst}
use Prim.Native.Nat.{ℕ, ◌-◌}
use native.Mathlib.Omega.{arith}
use lib.ListN.{length, length-set}
use Rattle.contents.specs.Contents.{entry_of}
use Rattle.edit_numbers.proofs.Laws.Size.{entry-short}
use Rattle.edit_plans.specs.Inner.Lists.{Upto}
use Rattle.edit_plans.proofs.Laws.Upto.{upto-none, upto_next}
use Rattle.edit_plans.proofs.read.Goals as goal

pub loop-i-init : goal.loop-i-init
loop-i-init c = (omega arith, upto-none _ _ _ _ _, refl, refl, refl)

pub overflow_cast-lengths : goal.overflow_cast-lengths
overflow_cast-lengths c =
    let e = c.entry_at-e in
    let q = c.skip.ensures in
    omega (arith, entry-short c.args.book.now c.requires.good _ (c.requires.own c.loop-i.i (omega arith)) e.result (e.ensures ∙ ap (entry_of c.args.book.now) q))

pub loop-i-preserved : goal.loop-i-preserved
loop-i-preserved c =
    let l = c.loop-i in
    let e = c.entry_at-e in (
      omega arith,
      upto_next c.args.book.now l.i c.args.j l.kinds l.widths l.lengths (omega (arith, c.requires.few, l.invariant.2)) (omega (arith, c.requires.few, l.invariant.3)) (omega (arith, c.requires.few, l.invariant.4)) l.invariant.1 e.result (e.ensures ∙ ap (entry_of c.args.book.now) c.skip.ensures),
      length-set l.kinds l.i e.result.kind ∙ l.invariant.2,
      length-set l.widths l.i e.result.width ∙ l.invariant.3,
      length-set l.lengths l.i e.result.length ∙ l.invariant.4,
    )

pub returns : goal.returns
returns c =
    let l = c.loop-i in
    let q : l.i ≡ c.args.count = omega (arith, l.invariant.0, c.loop-i-test.false) in
    record { counted = refl; listed = subst (λ (n : ℕ). Upto c.args.book.now n c.args.j l.kinds l.widths l.lengths) q l.invariant.1; long = (l.invariant.2, l.invariant.3, l.invariant.4) }

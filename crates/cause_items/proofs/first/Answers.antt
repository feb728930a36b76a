-- `first` meets its contract: no item below j is at fault.
use mathlib.Core.Path.{sym, ◌∙◌}
use Prim.Native.Nat.{◌/◌}
use native.Mathlib.Omega.{arith}
use lib.ListN.{length}
use Rattle.std.proofs.lemmas.Result.{err_from_is_err_and}
use Rattle.cause.proofs.Laws.First.{refused, below-zero, below_next, below-here, below_none}
use Rattle.cause_items.specs.Items.{item_found}
use Rattle.cause_items.proofs.first.Goals as goal

pub loop-j-init : goal.loop-j-init
loop-j-init c = below-zero _

pub returns-in_err-item : goal.returns-in_err-item
returns-in_err-item c =
    let a = c.args in
    let l = c.loop-j in
    let p = err_from_is_err_and c.from_residual.result c.from_residual.ensures.1 in
    let e = c.in_err-item.ensures in
    rw (p.1, p.2) (e ∙ below-here (item_found a.at a.dialect a.width a.items.now) l.j (length a.items.now / 3) l.invariant (omega arith) (refused _ _ e))

pub loop-j-preserved : goal.loop-j-preserved
loop-j-preserved c = let a = c.args in let l = c.loop-j in let f = item_found a.at a.dialect a.width a.items.now in below_next f l.j l.invariant (sym c.in_ok-item.ensures)

pub returns : goal.returns
returns c = let a = c.args in let l = c.loop-j in let f = item_found a.at a.dialect a.width a.items.now in below_none f l.j (length a.items.now / 3) l.invariant (omega arith) (omega arith)

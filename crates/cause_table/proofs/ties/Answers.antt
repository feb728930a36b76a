-- `ties` meets its contract: no tie below j is at fault.
use native.Mathlib.Omega.{arith}
use mathlib.Core.Path.{sym, ◌∙◌}
use Rattle.body_bytes.specs.Body.{tie_count}
use Rattle.std.proofs.lemmas.Result.{err_from_is_err_and}
use Rattle.cause.proofs.Laws.First.{refused, below-zero, below_next, below-here, below_none}
use Rattle.cause_table.specs.Table.{tie_found}
use Rattle.cause_table.proofs.ties.Goals as goal

pub loop-j-init : goal.loop-j-init
loop-j-init c = below-zero _

pub returns-in_err-tie : goal.returns-in_err-tie
returns-in_err-tie c =
    let a = c.args in
    let l = c.loop-j in
    let p = err_from_is_err_and c.from_residual.result c.from_residual.ensures.1 in
    let e = c.in_err-tie.ensures in
    rw (p.1, p.2) (e ∙ below-here (tie_found a.from a.width a.bs.now) l.j (tie_count a.width a.bs.now) l.invariant (omega (arith, c.count_of-k.ensures)) (refused _ _ e))

pub loop-j-preserved : goal.loop-j-preserved
loop-j-preserved c = let a = c.args in let l = c.loop-j in below_next (tie_found a.from a.width a.bs.now) l.j l.invariant (sym c.in_ok-tie.ensures)

pub returns : goal.returns
returns c = let a = c.args in let l = c.loop-j in let f = tie_found a.from a.width a.bs.now in below_none f l.j (tie_count a.width a.bs.now) l.invariant (omega (arith, c.count_of-k.ensures)) (omega (arith, c.count_of-k.ensures))

-- `rows` meets its contract: no row below v is out of range.
use native.Mathlib.Omega.{arith}
use mathlib.Core.Path.{◌≡◌, sym, ap, ◌∙◌}
use Prim.Native.Nat.{ℕ}
use Rattle.cause.specs.Cause.{number_of, found_number}
use Rattle.cause.proofs.Laws.First.{below-zero, below_next, below-here, below_none}
use Rattle.cause_table.specs.Table.{row_found}
use Rattle.cause_table.proofs.Laws.Ways.{row_out, row_in}
use Rattle.cause_table.proofs.rows.Goals as goal

pub loop-v-init : goal.loop-v-init
loop-v-init c = below-zero _

pub returns-then-mask_out : goal.returns-then-mask_out
unfolding number_of
returns-then-mask_out c = let a = c.args in let l = c.loop-v in let f = row_found a.from a.width a.bs.now in let e = row_out a.from a.width a.bs.now l.v _ _ c.row_of.ensures c.mask_out.ensures _ c.if-mask_out.true c.fault.ensures in e ∙ below-here f l.v a.width l.invariant (omega arith) (λ z. let q : ◌≡◌ {A = ℕ} 11 0 = sym (ap found_number (sym e ∙ c.fault.ensures)) ∙ z in omega arith)

pub loop-v-preserved : goal.loop-v-preserved
loop-v-preserved c = let a = c.args in let l = c.loop-v in let f = row_found a.from a.width a.bs.now in below_next f l.v l.invariant (row_in a.from a.width a.bs.now l.v _ _ c.row_of.ensures c.mask_out.ensures c.if-mask_out.false)

pub returns : goal.returns
returns c = let a = c.args in let l = c.loop-v in let f = row_found a.from a.width a.bs.now in below_none f l.v a.width l.invariant (omega arith) (omega arith)

-- `turns` meets its contract: no turn below v is out of range.
use native.Mathlib.Omega.{arith}
use mathlib.Core.Path.{◌≡◌, sym, ap, ◌∙◌}
use Prim.Native.Nat.{ℕ}
use Rattle.cause.specs.Cause.{number_of, sound, found_number}
use Rattle.cause.proofs.Laws.First.{below-zero, below_next, below-here, below_none}
use Rattle.cause_table.specs.Table.{turn_found}
use Rattle.cause_table.proofs.Laws.Ways.{turn-out, turn_in}
use Rattle.cause_table.proofs.turns.Goals as goal

pub loop-v-init : goal.loop-v-init
loop-v-init c = below-zero _

pub returns-then-turn_of-gt3 : goal.returns-then-turn_of-gt3
unfolding number_of
returns-then-turn_of-gt3 c = let a = c.args in let l = c.loop-v in let f = turn_found a.from a.bs.now in let e = turn-out a.from a.bs.now l.v _ (omega arith) c.fault.ensures in e ∙ below-here f l.v a.width l.invariant (omega arith) (λ z. let q : ◌≡◌ {A = ℕ} 11 0 = sym (ap found_number (sym e ∙ c.fault.ensures)) ∙ z in omega arith)

pub loop-v-preserved : goal.loop-v-preserved
loop-v-preserved c = let a = c.args in let l = c.loop-v in let f = turn_found a.from a.bs.now in below_next f l.v l.invariant (turn_in a.from a.bs.now l.v sound (omega arith))

pub returns : goal.returns
returns c = let a = c.args in let l = c.loop-v in let f = turn_found a.from a.bs.now in below_none f l.v a.width l.invariant (omega arith) (omega arith)

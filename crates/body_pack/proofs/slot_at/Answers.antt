-- `slot_at` meets its contract: as many live slots as `below` counts were passed, and none of them is the one.
use mathlib.Core.Path.{◌≡◌, sym, ap, ◌∙◌}
use native.Mathlib.Omega.{arith}
use Rattle.bits.proofs.Laws.Bit.{bit-lt}
use Rattle.body_pack.specs.Slot.{rank, slot_at}
use Rattle.body_pack.proofs.Laws.Slot.{rank-none, rank-next, slot-rank, slot-none}
use Rattle.body_pack.proofs.slot_at.Goals as goal
use Rattle.body_pack.proofs.slot_at.Goals.{then-digit-eq1+else-below-i, else-digit-eq1}

pub loop-v-init : goal.loop-v-init
loop-v-init c = (sym (rank-none c.args.live), omega arith)

pub returns-then-below-i : goal.returns-then-below-i
returns-then-below-i c =
    let l = c.loop-v in
    let a = c.args in
    let d = c.digit.ensures in
    let e : a.i ≡ rank a.live l.v = omega arith in
    sym (ap (slot_at a.live) e ∙ slot-rank a.live l.v (omega arith) (sym d.is ∙ c.if-digit-eq1.true))

pub returns : goal.returns
returns c =
    let a = c.args in
    let l = c.loop-v in
    let e : l.v ≡ 64 = omega arith in
    sym (slot-none a.live a.i (omega (arith, ap (rank a.live) e)))

pub loop-v-preserved : goal.loop-v-preserved
loop-v-preserved c =
    let a = c.args in
    let l = c.loop-v in
    let d = c.digit.ensures in
    elim c.if-digit-eq1.branch [
      | then-digit-eq1+else-below-i w ↦ (omega (arith, rank-next a.live l.v l.below 1 l.invariant.0 (sym w.if-digit-eq1.true ∙ d.is)), omega arith)
      | else-digit-eq1 w ↦ (omega (arith, rank-next a.live l.v l.below 0 l.invariant.0 (omega (arith, bit-lt a.live l.v))), omega arith)
    ]

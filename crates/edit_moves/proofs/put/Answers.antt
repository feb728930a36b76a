-- `put` meets its contract: the first i bytes are put.
use mathlib.Core.Path.{refl, ap}
use Prim.Native.Nat.{ℕ}
use native.Mathlib.Omega.{arith}
use lib.ListN.{get_or}
use Rattle.edit_moves.proofs.Laws.Holds.{holds-up, holds-to}
use Rattle.edit_moves.proofs.put.Goals as goal

pub loop-i-preserved : goal.loop-i-preserved
loop-i-preserved c =
    let l = c.loop-i in
    let a = c.args in
    (omega arith, holds-to _ _ _ _ _ _ (omega arith) (holds-up _ _ _ _ _ _ _ l.invariant.1 (omega (arith, l.invariant.1.long)) (ap (λ (p : ℕ). get_or a.body.now p 0) (omega arith)) (omega arith) refl))

pub returns : goal.returns
returns c =
    let l = c.loop-i in
    holds-to _ _ _ _ _ _ (omega arith) l.invariant.1

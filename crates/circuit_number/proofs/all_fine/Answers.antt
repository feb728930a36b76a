-- `all_fine` meets its contract: no item below j is refused where each was found fine.
use mathlib.Core.Path.{◌≡◌, refl, sym, subst}
use Prim.Native.Nat.{ℕ, ◌/◌}
use native.Mathlib.Omega.{arith}
use lib.ListN.{length}
use Rattle.gates.specs.Circuit.{gates_number}
use Rattle.circuit_number.proofs.Laws.Number.{none-refused}
use Rattle.circuit_number.proofs.Laws.Fine.{both}
use Rattle.circuit_number.proofs.all_fine.Goals as goal

pub loop-j-init : goal.loop-j-init
unfolding gates_number
loop-j-init c e d = refl

pub loop-j-preserved : goal.loop-j-preserved
loop-j-preserved c e d =
    let l = c.loop-j in
    let z = both l.fine c.fine_at-fine.result e in
    none-refused d c.args.width c.args.gates.now l.j 0 (l.invariant z.0 d) (sym (c.fine_at-fine.ensures z.1 d)) refl

pub returns : goal.returns
returns c e d =
    let l = c.loop-j in
    let k : l.j ≡ length c.args.gates.now / 3 = omega arith in
    subst (λ (n : ℕ). gates_number d c.args.width c.args.gates.now n ≡ 0) k (l.invariant e d)

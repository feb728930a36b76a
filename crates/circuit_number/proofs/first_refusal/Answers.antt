-- `first_refusal` meets its contract: no gate below j is refused.
use mathlib.Core.Path.{◌≡◌, refl, sym, ap, ◌∙◌, subst}
use Prim.Native.Nat.{ℕ, ◌/◌}
use native.Mathlib.Omega.{arith}
use lib.ListN.{length}
use Rattle.std.proofs.lemmas.Result.{err_from_is_err_and}
use Rattle.gates.specs.Circuit.{number_of, gates_number}
use Rattle.exact.proofs.Laws.Code.{code-some}
use Rattle.circuit_number.proofs.Laws.Number.{none-refused, first-refused}
use Rattle.circuit_number.proofs.first_refusal.Goals as goal

pub loop-j-init : goal.loop-j-init
unfolding gates_number
loop-j-init c = refl

pub returns-in_err-test : goal.returns-in_err-test
returns-in_err-test c =
    let p = err_from_is_err_and c.from_residual.result c.from_residual.ensures.1 in
    rw (p.1, p.2) (first-refused c.args.dialect c.args.width c.args.gates.now c.loop-j.j _ _ c.loop-j.invariant (c.in_err-test.ensures ∙ ap number_of c.item_at.ensures) (code-some _) (omega arith))

pub loop-j-preserved : goal.loop-j-preserved
loop-j-preserved c = none-refused c.args.dialect c.args.width c.args.gates.now c.loop-j.j _ c.loop-j.invariant (c.in_ok-test.ensures ∙ ap number_of c.item_at.ensures) refl

pub returns : goal.returns
returns c = let e : c.loop-j.j ≡ length c.args.gates.now / 3 = omega arith in sym (subst (λ (n : ℕ). gates_number c.args.dialect c.args.width c.args.gates.now n ≡ 0) e c.loop-j.invariant)

-- `doubles::parts` meets its contract: the raised power is the power's, read back from its bits, and each arm is the definition's at its phase.
use mathlib.Core.Path.{◌≡◌, ap, ◌∙◌}
use Prim.Native.Nat.{ℕ}
use native.Mathlib.Omega.{arith}
use lib.Ieee.{of_bits, neg}
use lib.IntN.{ℤ}
use mir.Val.{SFits, to_z, of_z}
use mir.Syntax.{w32}
use mir.ValLaws.{to_z-of_z}
use Rattle.doubles.specs.Inner.Steps.{raised}
use Rattle.doubles.proofs.Laws.Raised.{raised-in}
use Rattle.doubles.proofs.Laws.Parts.{arm, last-phase}
use Rattle.doubles.proofs.parts.Goals as goal

known : (p : ℤ) (u : ℕ) → SFits w32 p → u ≡ raised (to_z w32 (of_z w32 p)) → u ≡ raised p
known p u f e = e ∙ ap raised (to_z-of_z w32 p f)

pub overflow_sub-u : goal.overflow_sub-u
overflow_sub-u c = omega (arith, known c.args.power c.raise-u.result c.ranges.power c.raise-u.ensures, raised-in c.args.power)

pub returns-in-0 : goal.returns-in-0
unfolding of_bits
returns-in-0 c = arm c.args.power c.args.phase 0 c.raise-u.result c.root_power-r.result c.root_power-h.result (known c.args.power c.raise-u.result c.ranges.power c.raise-u.ensures) c.root_power-r.ensures c.root_power-h.ensures c.in-0.is

pub returns-in-1 : goal.returns-in-1
unfolding of_bits
returns-in-1 c = arm c.args.power c.args.phase 1 c.raise-u.result c.root_power-r.result c.root_power-h.result (known c.args.power c.raise-u.result c.ranges.power c.raise-u.ensures) c.root_power-r.ensures c.root_power-h.ensures c.in-1.is

pub returns-in-2 : goal.returns-in-2
unfolding of_bits
returns-in-2 c = arm c.args.power c.args.phase 2 c.raise-u.result c.root_power-r.result c.root_power-h.result (known c.args.power c.raise-u.result c.ranges.power c.raise-u.ensures) c.root_power-r.ensures c.root_power-h.ensures c.in-2.is

pub returns-in-3 : goal.returns-in-3
unfolding of_bits
returns-in-3 c = arm c.args.power c.args.phase 3 c.raise-u.result c.root_power-r.result c.root_power-h.result (known c.args.power c.raise-u.result c.ranges.power c.raise-u.ensures) c.root_power-r.ensures c.root_power-h.ensures c.in-3.is

pub returns-in-4 : goal.returns-in-4
unfolding of_bits neg
returns-in-4 c = arm c.args.power c.args.phase 4 c.raise-u.result c.root_power-r.result c.root_power-h.result (known c.args.power c.raise-u.result c.ranges.power c.raise-u.ensures) c.root_power-r.ensures c.root_power-h.ensures c.in-4.is

pub returns-in-5 : goal.returns-in-5
unfolding of_bits
returns-in-5 c = arm c.args.power c.args.phase 5 c.raise-u.result c.root_power-r.result c.root_power-h.result (known c.args.power c.raise-u.result c.ranges.power c.raise-u.ensures) c.root_power-r.ensures c.root_power-h.ensures c.in-5.is

pub returns-in-6 : goal.returns-in-6
unfolding of_bits neg
returns-in-6 c = arm c.args.power c.args.phase 6 c.raise-u.result c.root_power-r.result c.root_power-h.result (known c.args.power c.raise-u.result c.ranges.power c.raise-u.ensures) c.root_power-r.ensures c.root_power-h.ensures c.in-6.is

pub returns-in_default : goal.returns-in_default
unfolding of_bits
returns-in_default c =
    let r = c.in_default.in_default-own.rest in
    arm c.args.power c.args.phase 7 c.raise-u.result c.root_power-r.result c.root_power-h.result (known c.args.power c.raise-u.result c.ranges.power c.raise-u.ensures) c.root_power-r.ensures c.root_power-h.ensures (last-phase _ r.0.0.0.0.0.0.1 r.0.0.0.0.0.1 r.0.0.0.0.1 r.0.0.0.1 r.0.0.1 r.0.1 r.1)

-- `amount_of` meets its contract: the case that the match found is the definition's.
use mathlib.Core.Path.{sym, ap, ◌∙◌, subst}
use Prim.Native.Nat.{◌≤◌}
use lib.IntN.{ℤ}
use Rattle.exact.specs.Amount.{some}
use Rattle.exact.specs.declared.Chance.{Chance}
use Rattle.exact.specs.Chance.{chance_amount, power_of}
use Rattle.told.proofs.Laws.Power.{over-amount}
use Rattle.told.proofs.amount_of.Goals as goal

pub power_over-requires : goal.power_over-requires
power_over-requires c = subst (λ (x : Chance). power_of x ≤ 65536) c.in-OneOver.is c.requires

pub returns-in-OneOver : goal.returns-in-OneOver
returns-in-OneOver c =
    ap (λ (z : ℤ). some z 0) c.power_over.ensures ∙ over-amount c.in-OneOver.e ∙ sym (ap chance_amount c.in-OneOver.is)

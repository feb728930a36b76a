-- `power_out` meets its contract: by the two tests.
use mathlib.Core.Path.{◌≡◌, subst, ◌∙◌}
use mathlib.Core.Bool.{true, false}
use lib.IntN.{ℤ, negsuc}
use lib.Signed.{lt_z}
use mir.Syntax.{w32}
use mir.ValLaws.{to_z-of_z}
use Rattle.body_bytes.proofs.Laws.Signed.{outside_low, outside_high}
use Rattle.body_fault.proofs.power_out.Goals as goal

pub returns-then-s-lt-LEAST_POWER : goal.returns-then-s-lt-LEAST_POWER
returns-then-s-lt-LEAST_POWER c =
    let s = c.args.s in
    c.if-s-lt-LEAST_POWER.true ∙ outside_low s (subst (λ (z : ℤ). lt_z z (negsuc 1999) ≡ true) (to_z-of_z w32 s c.ranges.s) c.if-s-lt-LEAST_POWER.true)

pub returns-else-s-lt-LEAST_POWER : goal.returns-else-s-lt-LEAST_POWER
returns-else-s-lt-LEAST_POWER c =
    let s = c.args.s in
    let e = to_z-of_z w32 s c.ranges.s in
    rw e (outside_high s (subst (λ (z : ℤ). lt_z z (negsuc 1999) ≡ false) e c.if-s-lt-LEAST_POWER.false))

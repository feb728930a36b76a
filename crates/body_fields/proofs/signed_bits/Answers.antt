-- `signed_bits` meets its contract: the library's two's complement of 16 bits.
use mathlib.Core.Path.{◌≡◌, ap, ◌∙◌}
use lib.IntN.{ℤ}
use mir.Facts.{to_z-of_z}
use mir.Syntax.{w16, w32}
use mir.Val.{to_z, of_z}
use Rattle.body_fields.proofs.Laws.Signed.{in-range-fits16, signed16-bits}
use Rattle.body_fields.proofs.signed_bits.Goals as goal

pub returns : goal.returns
returns c =
    let s = c.args.s in
    let e : to_z w32 (of_z w32 s) ≡ s = to_z-of_z c.ranges.s in
    c.cast_unsigned.ensures
    ∙ ap (λ (z : ℤ). of_z w16 (to_z w16 (of_z w16 z))) e
    ∙ ap (of_z w16) (to_z-of_z (in-range-fits16 s c.requires))
    ∙ signed16-bits s

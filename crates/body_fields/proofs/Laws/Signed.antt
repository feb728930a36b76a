-- A power in range in two's complement of 16 bits: it fits, and the library's bits are the documents'.
use mathlib.Core.Path.{◌≡◌, refl}
use native.Mathlib.Omega.{arith}
use lib.IntN.{ℤ, pos, negsuc}
use mir.Syntax.{w16}
use mir.Val.{SFits, of_z}
use Rattle.state.specs.Normal.{InRange}
use Rattle.body_fields.specs.Fields.{of_signed16}

pub in-range-fits16 : (z : ℤ) → InRange z → SFits w16 z
in-range-fits16 (pos n) h = record { sfits = omega (arith, h) }
in-range-fits16 (negsuc n) h = record { sfits = omega (arith, h) }

pub signed16-bits : (z : ℤ) → of_z w16 z ≡ of_signed16 z
unfolding of_signed16
signed16-bits (pos n) = refl
signed16-bits (negsuc n) = refl

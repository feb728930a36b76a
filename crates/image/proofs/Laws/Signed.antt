-- The zero mark and the power, written and read back, and read and written back. By cases.
use mathlib.Core.Bool.{Bool, true, false}
use mathlib.Core.Logic.{⊎_elim}
use mathlib.Core.Path.{◌≡◌, refl, sym, ap, ◌∙◌}
use Prim.Native.Nat.{ℕ, zero, suc, ◌-◌, ◌^◌, ◌≤◌, ◌<◌}
use native.Mathlib.Omega.{arith}
use lib.Dec.{eqb}
use lib.IntN.{ℤ, pos, negsuc}
use Rattle.exact.proofs.Laws.Sum.{split}
use Rattle.state.specs.Normal.{InRange}
use Rattle.body_fields.specs.Fields.{mark, of_signed16}
use Rattle.body_bytes.specs.Body.{signed16}
use Rattle.body_bytes.proofs.Laws.Signed.{signed_low, signed_high}

pub mark-back : (b : Bool) → b ≡ eqb (mark b) 1
mark-back true = refl
mark-back false = refl

pub mark-small : (b : Bool) → mark b < 2
mark-small true = omega arith
mark-small false = omega arith

pub mark-same : (b : ℕ) → b < 2 → mark (eqb b 1) ≡ b
mark-same zero h = refl
mark-same (suc zero) h = refl
mark-same (suc (suc b)) h = absurd (omega arith)

pub signed_back : (s : ℤ) → InRange s → s ≡ signed16 (of_signed16 s)
unfolding of_signed16
signed_back (pos n) h = sym (signed_low n (omega arith))
signed_back (negsuc n) h = sym (signed_high (65536 - suc n) (omega arith) (omega arith) ∙ ap negsuc (omega arith))

pub signed-small : (s : ℤ) → InRange s → of_signed16 s < 256 ^ 2
unfolding of_signed16
signed-small (pos n) h = omega arith
signed-small (negsuc n) h = omega arith

pub signed_same : (w : ℕ) → w < 65536 → of_signed16 (signed16 w) ≡ w
unfolding of_signed16
signed_same w h =
    ⊎_elim (λ (l : w < 32768). ap of_signed16 (signed_low w l)) (λ (l : 32768 ≤ w). ap of_signed16 (signed_high w l h) ∙ omega arith) (split w 32768)

-- `write_head` meets its contract: the three fields, one behind the other.
use mathlib.Core.List.{[], ◌∷◌, ◌++◌}
use mathlib.Core.Path.{◌≡◌, refl, ap, ◌∙◌}
use Prim.Native.Nat.{ℕ}
use mir.Facts.{to_z-of_z}
use mir.Syntax.{w32}
use mir.Val.{to_z, of_z}
use Rattle.fields.specs.Bytes.{le, front}
use Rattle.fields.proofs.Laws.Put.{lent-put}
use Rattle.fields.proofs.Laws.Front.{lent-front}
use Rattle.state.proofs.Laws.Scale.{in-range-fits}
use Rattle.body_fields.specs.Fields.{mark, of_signed16, head_bytes}
use Rattle.body_fields.proofs.Laws.Bytes.{front_same}
use borrow.Author.Rules.{rules}
use Rattle.body_fields.proofs.write_head.Goals as goal

pub returns : goal.returns
unfolding head_bytes
returns c =
    let a = c.args in
    let xs = a.part.now in
    let z = mark a.zero ∷ [] in
    let one = c.write_u8.ensures.fits (search rules) ∙ ap (λ (x : ℕ). front xs (x ∷ [])) c.mark_byte.ensures in
    let two = lent-front xs z (a.c.0 ∷ []) _ c.write_u8-2.new.part 1 one refl (c.write_u8-2.ensures.fits (search rules)) in
    let same : to_z w32 (of_z w32 a.s.0) ≡ a.s.0 = to_z-of_z (in-range-fits a.s.0 c.requires.0) in
    let bits = c.signed_bits.ensures ∙ ap of_signed16 same in
    lent-front xs (z ++ (a.c.0 ∷ [])) (le 2 (of_signed16 a.s.0)) _ c.write_u16.new.part 2 two refl (front_same _ _ _ _ (lent-put xs (z ++ (a.c.0 ∷ [])) _ _ _ 2 2 two refl c.requires.1 c.write_u16.ensures) (ap (le 2) bits))

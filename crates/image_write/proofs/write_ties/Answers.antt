-- `write_ties` meets its contract: the fields, one behind the other.
use mathlib.Core.List.{[], ◌∷◌, ◌++◌}
use mathlib.Core.Path.{◌≡◌, refl, ◌∙◌}
use native.Mathlib.Omega.{arith}
use lib.ListN.{length, length-append}
use Rattle.fields.specs.Bytes.{le}
use Rattle.fields.proofs.Laws.Front.{length-le, lent-front}
use Rattle.state.specs.Entry.{tie, side}
use Rattle.labels.specs.Labels.{label_at}
use Rattle.body_fields.specs.Fields.{joined}
use Rattle.body_fields.proofs.Laws.Bytes.{length-joined}
use Rattle.image.specs.Inner.Halves.{tie_bytes}
use Rattle.image_write.proofs.write_ties.Goals as goal

pub returns : goal.returns
unfolding tie_bytes
returns c =
    let xs = c.args.part.now in
    let t = c.args.t in
    let count = t.ties.count ∷ [] in
    let masks = joined 64 (λ j. le 8 (tie t j)) in
    let sides = joined 64 (λ j. side t j ∷ []) in
    let long : length (count ++ masks) ≡ 513 = length-append count masks ∙ omega (arith, length-joined 8 64 (λ j. le 8 (tie t j)) (λ j. length-le 8 (tie t j))) in
    let longer : length ((count ++ masks) ++ sides) ≡ 577 = length-append (count ++ masks) sides ∙ omega (arith, long, length-joined 1 64 (λ j. side t j ∷ []) (λ j. refl)) in
    let two = lent-front xs count masks _ c.write_masks.new.part 1 (c.write_u8.ensures.fits (omega (arith, c.requires.1))) refl c.write_masks.ensures in
    let three = lent-front xs (count ++ masks) sides _ c.write_sides.new.part 513 two long c.write_sides.ensures in
    lent-front xs ((count ++ masks) ++ sides) (joined 64 (λ v. le 2 (label_at c.args.ls v))) _ c.write_labels.new.part 577 three longer c.write_labels.ensures

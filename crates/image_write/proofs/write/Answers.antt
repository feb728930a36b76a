-- `write` meets its contract: the two halves, one behind the other.
use mathlib.Core.Path.{◌∙◌}
use Rattle.fields.proofs.Laws.Front.{lent-front}
use Rattle.image.specs.Inner.Halves.{form_bytes, tie_bytes}
use Rattle.image.proofs.Laws.Bytes.{length-form, image-whole}
use Rattle.image_write.proofs.write.Goals as goal

pub returns : goal.returns
returns c =
    let a = c.args in
    lent-front a.part.now (form_bytes a.t) (tie_bytes a.t a.ls) _ c.write_ties.new.part 588 c.write_form.ensures (length-form a.t a.ls) c.write_ties.ensures
    ∙ image-whole a.t a.ls a.part.now c.requires.1

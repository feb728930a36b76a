-- `form_of` meets its contract: part by part.
use borrow.Author.Rules.{rules}
use Rattle.form.specs.Form.{quarter}
use Rattle.body_bytes.specs.Body.{row_of}
use Rattle.body_read.specs.Table.{quarter_of}
use Rattle.body_read.proofs.Laws.Padded.{padded-asked}
use Rattle.body_read.proofs.Laws.Parts.{form-is}
use Rattle.body_read.proofs.form_of.Goals as goal

pub returns : goal.returns
returns c =
    let a = c.args in
    form-is a.width a.bs.now _ _ _ c.read_u8.ensures
    (padded-asked _ (quarter 0) a.width (quarter_of a.bs.now) _ c.padded.ensures (λ v r e. search rules))
    (padded-asked _ 0 a.width (row_of a.width a.bs.now) _ c.padded-2.ensures (λ v r e. search rules))

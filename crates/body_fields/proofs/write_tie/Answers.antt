-- `write_tie` meets its contract: the two fields, one behind the other.
use mathlib.Core.List.{[], ◌∷◌}
use Rattle.fields.specs.Bytes.{le}
use Rattle.fields.proofs.Laws.Front.{length-le, lent-front}
use Rattle.body_fields.specs.Fields.{tie_bytes}
use borrow.Author.Rules.{rules}
use Rattle.body_fields.proofs.write_tie.Goals as goal

pub returns : goal.returns
unfolding tie_bytes
returns c =
    let a = c.args in
    lent-front a.part.now (le 8 a.a.mask) (a.a.side ∷ []) _ c.write_u8.new.part 8 (c.write_u64.ensures.fits (search rules)) (length-le 8 a.a.mask) (c.write_u8.ensures.fits (search rules))

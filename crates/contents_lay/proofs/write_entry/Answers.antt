-- `write_entry` meets its contract: the four fields, one behind the other.
use mathlib.Core.Path.{refl}
use mathlib.Core.List.{[], ◌∷◌, ◌++◌}
use borrow.Author.Rules.{rules}
use Rattle.fields.specs.Bytes.{le}
use Rattle.fields.proofs.Laws.Front.{lent-front}
use Rattle.contents_lay.specs.Lay.{entry_bytes}
use Rattle.contents_lay.proofs.write_entry.Goals as goal

pub returns : goal.returns
unfolding entry_bytes le
returns c =
    let a = c.args in
    let xs = a.part.now in
    let kind = a.kind ∷ [] in
    let width = kind ++ (a.width ∷ []) in
    let size = width ++ le 2 a.size in
    let one = c.write_u8.ensures.fits (search rules) in
    let two = lent-front xs kind (a.width ∷ []) _ c.write_u8-2.new.part 1 one refl (c.write_u8-2.ensures.fits (search rules)) in
    let four = lent-front xs width (le 2 a.size) _ c.write_u16.new.part 2 two refl (c.write_u16.ensures.fits (search rules)) in
    lent-front xs size (le 4 a.start) _ c.write_u32.new.part 4 four refl (c.write_u32.ensures.fits (search rules))

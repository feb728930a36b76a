-- `write_form` meets its contract: the fields, one behind the other.
use mathlib.Core.List.{[], ◌∷◌}
use Prim.Native.Nat.{◌+◌, ◌≤◌}
use native.Mathlib.Omega.{arith}
use lib.ListN.{length}
use Rattle.fields.specs.Bytes.{le}
use Rattle.fields.proofs.Laws.Put.{lent-put}
use Rattle.fields.proofs.Laws.Front.{lent-front}
use Rattle.state.specs.Entry.{turn, row}
use Rattle.body_fields.specs.Fields.{joined}
use Rattle.image.specs.Inner.Halves.{form_bytes}
use Rattle.image.proofs.Laws.Bytes.{to_live, to_turns, to_rows, to_count, length-to-live, length-to-turns, length-to-rows}
use Rattle.image_write.proofs.write_form.Goals as goal

pub returns : goal.returns
unfolding form_bytes to_count to_rows to_turns to_live
returns c =
    let xs = c.args.part.now in
    let t = c.args.t in
    let room : 4 + 8 ≤ length xs = omega (arith, c.requires.1) in
    let two = lent-front xs (to_live t) (le 8 t.live) _ c.write_u64.new.part 4 c.write_head.ensures (length-to-live t) (lent-put xs (to_live t) (le 8 t.live) _ _ 4 8 c.write_head.ensures (length-to-live t) room c.write_u64.ensures) in
    let three = lent-front xs (to_turns t) (joined 64 (λ v. turn t v ∷ [])) _ c.write_turns.new.part 12 two (length-to-turns t) c.write_turns.ensures in
    lent-front xs (to_rows t) (joined 64 (λ v. le 8 (row t v))) _ c.write_rows.new.part 76 three (length-to-rows t) c.write_rows.ensures

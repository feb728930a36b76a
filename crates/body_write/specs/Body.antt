-- A table's body as bytes.
use Rattle.std.specs.Prelude.{List, ℕ}
use Rattle.std.specs.Int.Count.{ones}
use Rattle.state.specs.declared.State.{State}
use Rattle.state.specs.Entry.{turn, row, tie, side, ties}
use Rattle.body_pack.specs.Slot.{slot_at, packed_mask}
use Rattle.body_fields.specs.Fields.{field_bytes}

-- the body of any table: its "live bits in rising order", rows and masks packed
unfoldable pub body_bytes : State → List ℕ
body_bytes t =
    field_bytes t.zero t.form.phase.0 t.power.0 (ones t.live) (λ i. turn t (slot_at t.live i))
    (λ i. packed_mask t.live (row t (slot_at t.live i))) (ties t) (λ j. packed_mask t.live (tie t j)) (side t)

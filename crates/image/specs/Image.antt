-- A table in 1,293 bytes, each number with its lowest byte first: what include/topazfern.h says of them, field by field.
use Rattle.std.specs.Prelude.{List, [], ◌∷◌, ◌++◌, ◌≡◌, ℕ}
use Rattle.fields.specs.Bytes.{le}
use Rattle.state.specs.declared.State.{State}
use Rattle.state.specs.Entry.{turn, row, tie, side, ties}
use Rattle.state.specs.Normal.{Normal}
use Rattle.labels.specs.declared.Labels.{Labels}
use Rattle.labels.specs.Labels.{label_at, Proper}
use Rattle.body_fields.specs.Fields.{joined, head_bytes}

abbrev pub image_size : ℕ
image_size = 1293

-- zero mark, c and s as in a body of a book, the live mask, 64 turns, 64 rows, the tie count, 64 masks, 64 sides, 64 labels
unfoldable pub image_bytes : State → Labels → List ℕ
image_bytes t ls =
    ((((((head_bytes t.zero t.form.phase.0 t.power.0
    ++ le 8 t.live)
    ++ joined 64 (λ v. turn t v ∷ []))
    ++ joined 64 (λ v. le 8 (row t v)))
    ++ (ties t ∷ []))
    ++ joined 64 (λ j. le 8 (tie t j)))
    ++ joined 64 (λ j. side t j ∷ []))
    ++ joined 64 (λ v. le 2 (label_at ls v))

-- bs are the bytes of the normal table with the state t and the labels ls
pub record Images (bs : List ℕ) (t : State) (ls : Labels) : Type 0 where
  pub normal : Normal t
  pub proper : Proper t.live ls
  pub bytes : bs ≡ image_bytes t ls

-- The bytes of a table in two halves, each for one writer: up to its rows, and from its tie count on.
use Rattle.std.specs.Prelude.{List, [], ◌∷◌, ◌++◌, ℕ}
use Rattle.fields.specs.Bytes.{le}
use Rattle.state.specs.declared.State.{State}
use Rattle.state.specs.Entry.{turn, row, tie, side, ties}
use Rattle.labels.specs.declared.Labels.{Labels}
use Rattle.labels.specs.Labels.{label_at}
use Rattle.body_fields.specs.Fields.{joined, head_bytes}

unfoldable pub form_bytes : State → List ℕ
form_bytes t =
    ((head_bytes t.zero t.form.phase.0 t.power.0 ++ le 8 t.live) ++ joined 64 (λ v. turn t v ∷ [])) ++ joined 64 (λ v. le 8 (row t v))

unfoldable pub tie_bytes : State → Labels → List ℕ
tie_bytes t ls = (((ties t ∷ []) ++ joined 64 (λ j. le 8 (tie t j))) ++ joined 64 (λ j. side t j ∷ [])) ++ joined 64 (λ v. le 2 (label_at ls v))

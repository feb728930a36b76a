-- The state and the labels that any bytes state, number by number.
use Rattle.std.specs.Prelude.{List, ℕ, ◌+◌, ◌*◌, eqb}
use Rattle.exact.specs.declared.Quarter.{Quarter}
use Rattle.exact.specs.declared.Label.{Label}
use Rattle.fields.specs.Bytes.{byte_at, number}
use Rattle.fields.specs.Listed.{listed}
use Rattle.form.specs.Form.{quarter}
use Rattle.form.specs.declared.Form.{Form}
use Rattle.ties.specs.declared.Ties.{Ties}
use Rattle.state.specs.declared.State.{State}
use Rattle.labels.specs.declared.Labels.{Labels}
use Rattle.labels.specs.Labels.{named}
use Rattle.body_bytes.specs.Body.{mark_of, phase_of, power_of}

abbrev pub live_of : List ℕ → ℕ
live_of bs = number 8 bs 4

abbrev pub turn_of : List ℕ → ℕ → Quarter
turn_of bs v = quarter (byte_at bs (12 + v))

abbrev pub row_of : List ℕ → ℕ → ℕ
row_of bs v = number 8 bs (76 + 8 * v)

abbrev pub count_of : List ℕ → ℕ
count_of bs = byte_at bs 588

abbrev pub mask_of : List ℕ → ℕ → ℕ
mask_of bs j = number 8 bs (589 + 8 * j)

abbrev pub side_of : List ℕ → ℕ → ℕ
side_of bs j = byte_at bs (1101 + j)

abbrev pub label_of : List ℕ → ℕ → Label
label_of bs v = named (number 2 bs (1165 + 2 * v))

unfoldable pub form_of : List ℕ → Form
form_of bs = record { phase = record { 0 = phase_of bs }; turns = listed 64 (turn_of bs); signs = listed 64 (row_of bs) }

unfoldable pub ties_of : List ℕ → Ties
ties_of bs = record { count = count_of bs; masks = listed 64 (mask_of bs); sides = listed 64 (side_of bs) }

unfoldable pub state_of : List ℕ → State
state_of bs = record { zero = eqb (mark_of bs) 1; power = record { 0 = power_of bs }; live = live_of bs; form = form_of bs; ties = ties_of bs }

unfoldable pub labels_of : List ℕ → Labels
labels_of bs = record { of = listed 64 (label_of bs) }

-- The size of a body, the bytes of a packed table, and a table whose fields fit.
use Rattle.std.specs.Prelude.{List, ℕ, ◌+◌, ◌*◌, ◌≤◌, length}
use Rattle.state.specs.declared.State.{State}
use Rattle.state.specs.Entry.{turn, row, tie, side, ties}
use Rattle.state.specs.Normal.{InRange}
use Rattle.body_fields.specs.Fields.{field_bytes}

-- how many bytes those are
abbrev pub body_size : ℕ → ℕ → ℕ
body_size n k = 5 + 9 * n + 9 * k

-- the body of a table whose live slots are "0..n−1"
unfoldable pub plain_bytes : ℕ → State → List ℕ
plain_bytes n t = field_bytes t.zero t.form.phase.0 t.power.0 n (turn t) (row t) (ties t) (tie t) (side t)

-- what the writer of the fields is handed: at most 64 slots and ties, a power that fits, and room
pub record Fitting (part : List ℕ) (n : ℕ) (t : State) : Type 0 where
  pub slots : n ≤ 64
  pub few : ties t ≤ 64
  pub range : InRange t.power.0
  pub room : body_size n (ties t) ≤ length part

-- `write_fields` meets its contract: the fields, one behind the other.
use mathlib.Core.Bool.{Bool}
use mathlib.Core.List.{List, [], ◌∷◌}
use Prim.Native.Nat.{ℕ, ◌+◌, ◌*◌, ◌≤◌}
use native.Mathlib.Omega.{arith}
use lib.IntN.{ℤ}
use lib.ListN.{length}
use Rattle.fields.specs.Bytes.{le}
use Rattle.fields.proofs.Laws.Put.{lent-put}
use Rattle.fields.proofs.Laws.Front.{lent-front}
use Rattle.form.specs.Form.{turn_at, row_at}
use Rattle.ties.specs.Ties.{mask_at, side_at}
use Rattle.body_fields.specs.Fields.{joined, tie_bytes, field_bytes}
use Rattle.body_fields.specs.Inner.Fields.{plain_bytes}
use Rattle.body_fields.proofs.Laws.Bytes.{to_turns, to_rows, to_count, to_ties, length-turns, length-rows, length-count, length-ties}
use Rattle.body_fields.proofs.write_fields.Goals as goal

pub returns : goal.returns
unfolding plain_bytes field_bytes to_turns to_rows to_count to_ties
returns c =
    let a = c.args in
    let xs = a.part.now in
    let t = a.t in
    let n = a.n in
    let f = t.form in
    let k = t.ties.count in
    let at : (Bool → ℕ → ℤ → ℕ → (ℕ → ℕ) → (ℕ → ℕ) → ℕ → List ℕ) → List ℕ = λ Q. Q t.zero f.phase.0 t.power.0 n (turn_at f) (row_at f) k in
    let two = lent-front xs (at to_turns) (joined n (λ i. turn_at f i ∷ [])) _ c.write_turns.new.part 4 c.write_head.ensures (length-turns t.zero f.phase.0 t.power.0 n (turn_at f) (row_at f) k) c.write_turns.ensures in
    let three = lent-front xs (at to_rows) (joined n (λ i. le 8 (row_at f i))) _ c.write_rows.new.part (4 + n) two (length-rows t.zero f.phase.0 t.power.0 n (turn_at f) (row_at f) k) c.write_rows.ensures in
    let room : 4 + n + 8 * n + 1 ≤ length xs = omega (arith, c.requires.room) in
    let four = lent-front xs (at to_count) (k ∷ []) _ c.write_u8.new.part (4 + n + 8 * n) three (length-count t.zero f.phase.0 t.power.0 n (turn_at f) (row_at f) k) (lent-put xs (at to_count) (k ∷ []) _ _ (4 + n + 8 * n) 1 three (length-count t.zero f.phase.0 t.power.0 n (turn_at f) (row_at f) k) room c.write_u8.ensures) in
    lent-front xs (at to_ties) (joined k (λ j. tie_bytes (mask_at t.ties j) (side_at t.ties j))) _ c.write_ties.new.part (4 + n + 8 * n + 1) four (length-ties t.zero f.phase.0 t.power.0 n (turn_at f) (row_at f) k) c.write_ties.ensures

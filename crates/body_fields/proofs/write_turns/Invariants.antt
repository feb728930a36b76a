-- `write_turns` meets its contract: the fields below i are written.
use mathlib.Core.List.{[], ◌∷◌}
use mathlib.Core.Path.{◌≡◌}
use lib.ListN.{length}
use Rattle.fields.specs.Bytes.{front}
use Rattle.form.specs.Form.{turn_at}
use Rattle.body_fields.specs.Fields.{joined}
use Rattle.body_fields.proofs.write_turns.Given as goal

abbrev pub invariant-loop-i : goal.invariant-loop-i
invariant-loop-i l = (length l.part ≡ length l.initial.part) × (l.part ≡ front l.initial.part (joined l.i (λ v. turn_at l.f v ∷ [])))

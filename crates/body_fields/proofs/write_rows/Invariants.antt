-- `write_rows` meets its contract: the fields below i are written.
use mathlib.Core.Path.{◌≡◌}
use lib.ListN.{length}
use Rattle.fields.specs.Bytes.{le, front}
use Rattle.form.specs.Form.{row_at}
use Rattle.body_fields.specs.Fields.{joined}
use Rattle.body_fields.proofs.write_rows.Given as goal

abbrev pub invariant-loop-i : goal.invariant-loop-i
invariant-loop-i l = (length l.part ≡ length l.initial.part) × (l.part ≡ front l.initial.part (joined l.i (λ v. le 8 (row_at l.f v))))

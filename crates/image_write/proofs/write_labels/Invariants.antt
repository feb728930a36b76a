-- `write_labels` meets its contract: the fields below i are written.
use mathlib.Core.Path.{◌≡◌}
use lib.ListN.{length}
use Rattle.fields.specs.Bytes.{le, front}
use Rattle.labels.specs.Labels.{label_at}
use Rattle.body_fields.specs.Fields.{joined}
use Rattle.image_write.proofs.write_labels.Given as goal

abbrev pub invariant-loop-v : goal.invariant-loop-v
invariant-loop-v l = (length l.part ≡ length l.initial.part) × (l.part ≡ front l.initial.part (joined l.v (λ u. le 2 (label_at l.ls u))))

-- `write_masks` meets its contract: the fields below i are written.
use mathlib.Core.Path.{◌≡◌}
use lib.ListN.{length}
use Rattle.fields.specs.Bytes.{le, front}
use Rattle.ties.specs.Ties.{mask_at}
use Rattle.body_fields.specs.Fields.{joined}
use Rattle.image_write.proofs.write_masks.Given as goal

abbrev pub invariant-loop-j : goal.invariant-loop-j
invariant-loop-j l = (length l.part ≡ length l.initial.part) × (l.part ≡ front l.initial.part (joined l.j (λ u. le 8 (mask_at l.t u))))

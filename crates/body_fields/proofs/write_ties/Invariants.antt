-- `write_ties` meets its contract: the fields below j are written.
use mathlib.Core.Path.{◌≡◌}
use lib.ListN.{length}
use Rattle.fields.specs.Bytes.{front}
use Rattle.ties.specs.Ties.{mask_at, side_at}
use Rattle.body_fields.specs.Fields.{joined, tie_bytes}
use Rattle.body_fields.proofs.write_ties.Given as goal

abbrev pub invariant-loop-j : goal.invariant-loop-j
invariant-loop-j l = (length l.part ≡ length l.initial.part) × (l.part ≡ front l.initial.part (joined l.j (λ u. tie_bytes (mask_at l.t u) (side_at l.t u))))

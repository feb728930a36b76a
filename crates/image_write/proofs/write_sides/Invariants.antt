-- `write_sides` meets its contract: the fields below i are written.
use mathlib.Core.List.{[], ◌∷◌}
use mathlib.Core.Path.{◌≡◌}
use lib.ListN.{length}
use Rattle.fields.specs.Bytes.{front}
use Rattle.ties.specs.Ties.{side_at}
use Rattle.body_fields.specs.Fields.{joined}
use Rattle.image_write.proofs.write_sides.Given as goal

abbrev pub invariant-loop-j : goal.invariant-loop-j
invariant-loop-j l = (length l.part ≡ length l.initial.part) × (l.part ≡ front l.initial.part (joined l.j (λ u. side_at l.t u ∷ [])))

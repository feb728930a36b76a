-- `write_entries` meets its contract: the invariant is of the entries written and of where body j starts.
use mathlib.Core.Path.{◌≡◌}
use Prim.Native.Nat.{◌≤◌, ◌+◌, ◌*◌}
use lib.ListN.{length}
use Rattle.fields.specs.Bytes.{front}
use Rattle.contents_lay.specs.Lay.{laid_start, entries_bytes}
use Rattle.contents_lay.proofs.write_entries.Given as goal

abbrev pub invariant-loop-j : goal.invariant-loop-j
invariant-loop-j l =
    (l.j ≤ length l.kinds)
    × (length l.part ≡ length l.initial.part)
    × (l.start ≡ laid_start l.lengths l.j)
    × (l.start ≤ 132 + 65535 * l.j)
    × (l.part ≡ front l.initial.part (entries_bytes l.kinds l.widths l.lengths l.j))

-- `entry_at` meets its contract: the part from 4 bytes before the entry on; beyond the end all bytes are 0.
use mathlib.Core.Path.{ap, ◌∙◌}
use mathlib.Core.List.{List}
use Prim.Native.Nat.{ℕ, ◌*◌}
use native.Mathlib.Omega.{arith}
use Rattle.fields.proofs.Laws.Front.{lent-part}
use Rattle.contents.specs.Contents.{entry_of}
use Rattle.contents.proofs.Laws.Entry.{entry-moved, entry-beyond}
use Rattle.contents.proofs.entry_at.Goals as goal

pub returns-then-bs-j : goal.returns-then-bs-j
returns-then-bs-j c = entry-beyond c.args.bs.now c.args.j (omega arith)

pub returns : goal.returns
returns c =
    let bs = c.args.bs.now in
    let j = c.args.j in
    c.first_entry.ensures ∙ ap (λ (l : List ℕ). entry_of l 0) (lent-part bs (8 * j)) ∙ entry-moved bs j

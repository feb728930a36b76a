-- `removal` meets its contract: the lists without the body, and its two ends from its entry.
use mathlib.Core.List.{[]}
use mathlib.Core.Logic.{inl}
use mathlib.Core.Path.{ap}
use Prim.Native.Nat.{ℕ, ◌+◌, ◌*◌}
use native.Mathlib.Omega.{arith}
use Rattle.contents.proofs.Laws.Good.{good}
use Rattle.edit_numbers.specs.Volume.{remove, volume_of, edited}
use Rattle.edit_numbers.proofs.Laws.Parts.{parts-removed}
use Rattle.edit_plans.proofs.Laws.Held.{readable-without, held-removed, entry-start, entry-end, entry-within}
use Rattle.edit_plans.proofs.Laws.Planned.{planned}
use Rattle.edit_plans.proofs.removal.Goals as goal

pub read-requires : goal.read-requires
read-requires c =
    let n = c.count-count in
    readable-without c.args.book.now c.requires.0 c.args.j c.requires.1 n.result n.ensures

pub overflow_mul-result : goal.overflow_mul-result
overflow_mul-result c =
    let n = c.count-count in
    omega (arith, n.ensures, (good c.args.book.now c.requires.0).count)

pub overflow_add-result : goal.overflow_add-result
overflow_add-result c =
    let n = c.count-count in
    omega (arith, n.ensures, (good c.args.book.now c.requires.0).count)

pub overflow_add-result-2 : goal.overflow_add-result-2
overflow_add-result-2 c =
    let e = c.entry_at-e in
    omega (arith, entry-within c.args.book.now c.requires.0 c.args.j e.result c.requires.1 e.ensures)

pub returns : goal.returns
returns c =
    let l = c.read in
    let d = c.edition in
    let e = c.entry_at-e in
    let n = c.count-count in
    let bs = c.args.book.now in
    let j = c.args.j in
    planned bs (edited (remove j) (volume_of bs)) [] _ _ _ (parts-removed bs c.requires.0 j c.requires.1) d.ensures
    (held-removed bs c.requires.0 j c.requires.1 n.result l.result n.ensures l.ensures) (ap (λ (k : ℕ). 4 + 8 * k) n.ensures)
    (entry-start bs c.requires.0 j e.result c.requires.1 e.ensures) (entry-end bs c.requires.0 j e.result c.requires.1 e.ensures) (inl (omega arith))

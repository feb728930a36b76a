-- `replacement` meets its contract: the lists with the new body, and the old body's two ends from its entry.
use mathlib.Core.Logic.{inl}
use mathlib.Core.Path.{refl, sym, ap}
use Prim.Native.Nat.{ℕ, ◌+◌, ◌*◌}
use native.Mathlib.Omega.{arith}
use Rattle.contents.proofs.Laws.Good.{good}
use Rattle.edit_numbers.specs.Volume.{replace, volume_of, edited}
use Rattle.edit_numbers.proofs.Laws.Parts.{parts-replaced}
use Rattle.edit_plans.proofs.Laws.Held.{readable-all, held-put, entry-start, entry-end, entry-within}
use Rattle.edit_plans.proofs.Laws.Planned.{planned}
use Rattle.edit_plans.proofs.replacement.Goals as goal

pub read-l-requires : goal.read-l-requires
read-l-requires c =
    let n = c.count-count in
    readable-all c.args.book.now c.requires.0.good n.result n.ensures

pub overflow_cast-come : goal.overflow_cast-come
overflow_cast-come c =
    let e = c.entry_at-e in
    omega (arith, c.requires.0.short, entry-within c.args.book.now c.requires.0.good c.args.j e.result c.requires.1 e.ensures)

pub put-requires : goal.put-requires
put-requires c =
    omega (arith, c.requires.1, (good c.args.book.now c.requires.0.good).count)

pub overflow_mul-result : goal.overflow_mul-result
overflow_mul-result c =
    let n = c.count-count in
    omega (arith, n.ensures, (good c.args.book.now c.requires.0.good).count)

pub overflow_add-result : goal.overflow_add-result
overflow_add-result c =
    let n = c.count-count in
    omega (arith, n.ensures, (good c.args.book.now c.requires.0.good).count)

pub overflow_add-result-2 : goal.overflow_add-result-2
overflow_add-result-2 c =
    let e = c.entry_at-e in
    omega (arith, entry-within c.args.book.now c.requires.0.good c.args.j e.result c.requires.1 e.ensures)

pub returns : goal.returns
returns c =
    let r = c.put in
    let d = c.edition in
    let l = c.read-l in
    let e = c.entry_at-e in
    let n = c.count-count in
    let a = c.args in
    let bs = a.book.now in
    let z = c.requires.0.good in
    let most = (good bs z).count in
    planned bs (edited (replace a.j a.kind a.width a.body.now) (volume_of bs)) a.body.now _ _ _ (parts-replaced bs z a.j c.requires.1 a.kind a.width a.body.now) d.ensures
    (held-put bs z n.result n.result a.j a.kind a.width a.body.now l.result r.result n.ensures l.ensures r.ensures
    (omega (arith, c.requires.1, most)) (omega (arith, n.ensures, most)) (λ i b ne. omega (arith, n.ensures, b)) _ (sym n.ensures) (λ i. refl) (λ i. refl) (λ i. refl)) (ap (λ (k : ℕ). 4 + 8 * k) n.ensures)
    (entry-start bs z a.j e.result c.requires.1 e.ensures) (entry-end bs z a.j e.result c.requires.1 e.ensures) (inl (omega arith))

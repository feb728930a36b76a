-- `addition` meets its contract: the lists with the new body behind the others.
use mathlib.Core.Logic.{inr}
use mathlib.Core.Path.{refl, sym, ap, ◌∙◌}
use Prim.Native.Nat.{ℕ, suc, ◌+◌, ◌*◌}
use native.Mathlib.Numerals.{add-one}
use native.Mathlib.Omega.{arith}
use Rattle.contents.specs.Contents.{kind_of, width_of}
use Rattle.book.specs.Book.{bytes_of}
use Rattle.edit_numbers.specs.Volume.{add, volume_of, edited, swapped}
use Rattle.edit_numbers.proofs.Laws.Parts.{parts_added}
use Rattle.edit_plans.proofs.Laws.Held.{readable-all, held-put}
use Rattle.edit_plans.proofs.Laws.Planned.{planned}
use Rattle.edit_plans.proofs.addition.Goals as goal

pub read-l-requires : goal.read-l-requires
read-l-requires c =
    let n = c.count-count in
    readable-all c.args.book.now c.requires.0.good n.result n.ensures

pub returns : goal.returns
returns c =
    let r = c.put in
    let d = c.edition in
    let l = c.read-l in
    let n = c.count-count in
    let a = c.args in
    let bs = a.book.now in
    let z = c.requires.0.good in
    let few = c.requires.1 in
    planned bs (edited (add a.kind a.width a.body.now) (volume_of bs)) a.body.now _ _ _ (parts_added bs z a.kind a.width a.body.now) d.ensures
    (held-put bs z n.result (n.result + 1) n.result a.kind a.width a.body.now l.result r.result n.ensures l.ensures r.ensures
    (omega (arith, n.ensures, few)) (omega (arith, n.ensures, few)) (λ i b ne. omega (arith, n.ensures, b, ne)) _ (ap suc (sym n.ensures) ∙ sym (add-one n.result))
    (λ i. ap (λ (k : ℕ). swapped k a.kind (kind_of bs) i) (sym n.ensures)) (λ i. ap (λ (k : ℕ). swapped k a.width (width_of bs) i) (sym n.ensures)) (λ i. ap (λ (k : ℕ). swapped k a.body.now (bytes_of bs) i) (sym n.ensures)))
    (ap (λ (k : ℕ). 4 + 8 * k) n.ensures) refl refl (inr (omega arith))

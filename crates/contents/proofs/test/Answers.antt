-- `test` meets its contract: the invariant says that no entry below j is refused and where the next body is to start.
use mathlib.Core.Path.{◌≡◌, sym, ap, ◌∙◌}
use mathlib.Core.Bool.{false, not}
use borrow.Author.Tests.{eq-eqb, ne_eqb}
use Prim.Native.Nat.{ℕ, ◌+◌, ◌*◌}
use native.Mathlib.Omega.{arith}
use lib.ListN.{length}
use Rattle.contents.specs.Contents.{header_fault, entry_fault}
use Rattle.contents.proofs.Laws.Some.{some-zero, some_next}
use Rattle.contents.proofs.Laws.Entry.{fault-none}
use Rattle.contents.proofs.Laws.Header.{header-small}
use Rattle.contents.proofs.Laws.Test.{start-zero, number-nine, number-ten, number-none, contents-short, contents-entry, turn-fault, turn-next, test-ends}
use Rattle.contents.proofs.test.Goals as goal

-- what is known of the header once it is not refused

pub returns-then-header_fault : goal.returns-then-header_fault
returns-then-header_fault c = number-nine c.args.bs.now (sym c.header_fault.ensures ∙ c.if-header_fault.true)

pub overflow_mul-first : goal.overflow_mul-first
overflow_mul-first c =
    let bs = c.args.bs.now in
    omega (arith, c.count-n.ensures, (header-small bs ((let good : header_fault c.args.bs.now ≡ false = sym c.header_fault.ensures ∙ c.if-header_fault.false in good))).2)

pub overflow_add-first : goal.overflow_add-first
overflow_add-first c =
    let bs = c.args.bs.now in
    omega (arith, c.count-n.ensures, (header-small bs ((let good : header_fault c.args.bs.now ≡ false = sym c.header_fault.ensures ∙ c.if-header_fault.false in good))).2)

pub returns-then-bs-first : goal.returns-then-bs-first
returns-then-bs-first c =
    let bs = c.args.bs.now in
    number-ten bs ((let good : header_fault c.args.bs.now ≡ false = sym c.header_fault.ensures ∙ c.if-header_fault.false in good)) (contents-short bs (omega (arith, c.count-n.ensures)))

pub loop-j-init : goal.loop-j-init
loop-j-init c =
    let bs = c.args.bs.now in
    (omega arith, ap (λ (n : ℕ). 4 + 8 * n) c.count-n.ensures ∙ start-zero bs, some-zero (entry_fault bs))

pub returns-then-fault_at : goal.returns-then-fault_at
returns-then-fault_at c =
    let bs = c.args.bs.now in
    let l = c.loop-j in
    let e = c.entry_at-e in
    let d = c.edition-edition in
    let f = c.fault_at in
    let refused = turn-fault bs l.j l.at e.result e.ensures l.invariant.1 d.result d.ensures f.result f.ensures ∙ c.if-fault_at.true in
    number-ten bs ((let good : header_fault c.args.bs.now ≡ false = sym c.header_fault.ensures ∙ c.if-header_fault.false in good)) (contents-entry bs l.j (omega (arith, c.count-n.ensures)) refused)

pub overflow_add-at : goal.overflow_add-at
overflow_add-at c =
    let f = c.fault_at in
    let e = c.entry_at-e.result in
    let l = c.loop-j in
    let bs = c.args.bs.now in
    let none = fault-none c.edition-edition.result e l.at (length bs) (sym f.ensures ∙ c.if-fault_at.false) in
    omega (arith, none.1, none.2)

pub loop-j-preserved : goal.loop-j-preserved
loop-j-preserved c =
    let bs = c.args.bs.now in
    let l = c.loop-j in
    let e = c.entry_at-e in
    let d = c.edition-edition in
    let f = c.fault_at in
    let fine = turn-fault bs l.j l.at e.result e.ensures l.invariant.1 d.result d.ensures f.result f.ensures ∙ c.if-fault_at.false in
    (omega arith, turn-next bs l.j l.at e.result e.ensures l.invariant.1, some_next l.j (entry_fault bs) l.invariant.2 fine)

pub returns-then-at-bs : goal.returns-then-at-bs
returns-then-at-bs c =
    let bs = c.args.bs.now in
    let l = c.loop-j in
    let ends = test-ends bs c.count-n.result l.at l.j c.count-n.ensures (omega arith) l.invariant.0 (omega arith) l.invariant.1 l.invariant.2 in
    number-ten bs ((let good : header_fault c.args.bs.now ≡ false = sym c.header_fault.ensures ∙ c.if-header_fault.false in good)) (ends ∙ ap not (ne_eqb l.at (length bs) c.if-at-bs.true))

pub returns : goal.returns
returns c =
    let bs = c.args.bs.now in
    let l = c.loop-j in
    let ends = test-ends bs c.count-n.result l.at l.j c.count-n.ensures (omega arith) l.invariant.0 (omega arith) l.invariant.1 l.invariant.2 in
    number-none bs ((let good : header_fault c.args.bs.now ≡ false = sym c.header_fault.ensures ∙ c.if-header_fault.false in good)) (ends ∙ ap not (eq-eqb l.at (length bs) c.if-at-bs.false))

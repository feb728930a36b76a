-- `first` meets its contract: the invariant says that no entry below j is at fault and where the next body is to start.
use mathlib.Core.Path.{◌≡◌, refl, sym, ap, ◌∙◌}
use Prim.Native.Nat.{ℕ, ◌+◌, ◌*◌}
use native.Mathlib.Omega.{arith}
use lib.ListN.{length}
use Rattle.std.proofs.lemmas.Result.{err_from_is_err_and}
use Rattle.contents.specs.Contents.{count_of, body_start}
use Rattle.contents.proofs.Laws.Entry.{fault-none}
use Rattle.contents.proofs.Laws.Header.{header-small}
use Rattle.contents.proofs.Laws.Test.{start-zero, turn-next}
use Rattle.cause.specs.declared.Cause.TheVariants.{LastEnd}
use Rattle.cause.specs.Cause.{found, found_number}
use Rattle.cause.proofs.Laws.First.{faulty, below-zero, below_next, below_none}
use Rattle.cause_contents.specs.Contents.{entry_at}
use Rattle.cause_contents.proofs.Laws.Number.{header-good, entry-good}
use Rattle.cause_contents.proofs.Laws.Ways.{turn-entry, at-header, at-short, at_entry, at-end, at-good}
use Rattle.cause_contents.proofs.first.Goals as goal

pub returns-in_err-header : goal.returns-in_err-header
returns-in_err-header c =
    let p = err_from_is_err_and c.from_residual.result c.from_residual.ensures.1 in
    rw (p.1, p.2) (at-header c.args.bs.now _ c.in_err-header.ensures (faulty c.in_err-header.field-0.0))

pub overflow_mul-behind : goal.overflow_mul-behind
overflow_mul-behind c = let bs = c.args.bs.now in omega (arith, c.count-n.ensures, (header-small bs (header-good bs (ap found_number (sym c.in_ok-header.ensures)))).2)

pub overflow_add-behind : goal.overflow_add-behind
overflow_add-behind c = let bs = c.args.bs.now in omega (arith, c.count-n.ensures, (header-small bs (header-good bs (ap found_number (sym c.in_ok-header.ensures)))).2)

pub returns-then-bs-behind : goal.returns-then-bs-behind
returns-then-bs-behind c = let bs = c.args.bs.now in at-short bs _ (ap found_number (sym c.in_ok-header.ensures)) (omega (arith, c.count-n.ensures)) c.fault.ensures

pub loop-j-init : goal.loop-j-init
loop-j-init c = let bs = c.args.bs.now in (ap (λ (n : ℕ). 4 + 8 * n) c.count-n.ensures ∙ start-zero bs, below-zero (entry_at bs))

pub entry-requires : goal.entry-requires
entry-requires c = let bs = c.args.bs.now in omega (arith, c.count-n.ensures, (header-small bs (header-good bs (ap found_number (sym c.in_ok-header.ensures)))).2)

pub returns-in_err-entry : goal.returns-in_err-entry
returns-in_err-entry c =
    let bs = c.args.bs.now in
    let e = c.entry_at-e in
    let l = c.loop-j in
    let d = c.edition-edition in
    let p = err_from_is_err_and c.from_residual-in_err-entry.result c.from_residual-in_err-entry.ensures.1 in
    rw (p.1, p.2) (at_entry bs _ (ap found_number (sym c.in_ok-header.ensures)) (omega (arith, c.count-n.ensures)) l.j l.invariant.1 (omega (arith, c.count-n.ensures))
    (turn-entry bs l.j l.at d.result e.result _ e.ensures l.invariant.0 d.ensures c.in_err-entry.ensures) (faulty c.in_err-entry.field-0.0))

pub overflow_add-at : goal.overflow_add-at
overflow_add-at c =
    let bs = c.args.bs.now in
    let e = c.entry_at-e in
    let l = c.loop-j in
    let d = c.edition-edition in
    let none = fault-none d.result e.result l.at (length bs) (entry-good d.result e.result l.j l.at (length bs) (ap found_number (sym c.in_ok-entry.ensures))) in
    omega (arith, none.1, none.2, (header-small bs (header-good bs (ap found_number (sym c.in_ok-header.ensures)))).1)

pub loop-j-preserved : goal.loop-j-preserved
loop-j-preserved c =
    let bs = c.args.bs.now in
    let e = c.entry_at-e in
    let l = c.loop-j in
    let d = c.edition-edition in
    (turn-next bs l.j l.at e.result e.ensures l.invariant.0, below_next (entry_at bs) l.j l.invariant.1 (sym (turn-entry bs l.j l.at d.result e.result _ e.ensures l.invariant.0 d.ensures c.in_ok-entry.ensures)))

pub returns-then-at-bs : goal.returns-then-at-bs
returns-then-at-bs c = let bs = c.args.bs.now in let l = c.loop-j in let n = c.count-n in let q : l.j ≡ count_of bs = omega (arith, n.ensures) in let clear = below_none (entry_at bs) l.j (count_of bs) l.invariant.1 (omega arith) (omega arith) in let s : l.at ≡ body_start bs (count_of bs) = l.invariant.0 ∙ ap (body_start bs) q in at-end bs _ (ap found_number (sym c.in_ok-header.ensures)) (omega (arith, n.ensures)) clear (λ z. c.if-at-bs.true (s ∙ z)) (c.fault-then-at-bs.ensures ∙ ap (found LastEnd 0) s)

pub returns : goal.returns
returns c = let bs = c.args.bs.now in let l = c.loop-j in let n = c.count-n in let q : l.j ≡ count_of bs = omega (arith, n.ensures) in let clear = below_none (entry_at bs) l.j (count_of bs) l.invariant.1 (omega arith) (omega arith) in let s : l.at ≡ body_start bs (count_of bs) = l.invariant.0 ∙ ap (body_start bs) q in at-good bs _ (ap found_number (sym c.in_ok-header.ensures)) (omega (arith, n.ensures)) clear (sym s ∙ c.if-at-bs.false) refl

-- `first` meets its contract: the invariant says that the first fault is that of the items from j on.
use mathlib.Core.Path.{◌≡◌, refl, sym, ap, ◌∙◌, subst}
use Prim.Native.Nat.{ℕ, ◌+◌, ◌-◌, ◌/◌, ◌≤◌}
use native.Mathlib.Omega.{arith}
use lib.ListN.{length}
use Rattle.blocks.specs.Expansion.{code_at}
use Rattle.std.proofs.lemmas.Result.{err_from_is_err_and}
use Rattle.cause.specs.Cause.{found_number}
use Rattle.cause.proofs.Laws.First.{faulty}
use Rattle.cause_blocks.specs.Blocks.{Scan, scan_found, start}
use Rattle.cause_blocks.proofs.Laws.Ways.{steps, behind-small, scan-here, scan-next, scan-unclosed, scan-long, scan_good}
use Rattle.cause_blocks.proofs.first.Goals as goal

pub loop-j-init : goal.loop-j-init
loop-j-init c = let a = c.args in let bs = a.items.now in (omega arith, omega arith, let q : length bs / 3 ≡ length bs / 3 - 0 = omega arith in ap (λ (k : ℕ). scan_found a.at bs k 0 start) q)

pub returns-in_err-mark : goal.returns-in_err-mark
returns-in_err-mark c =
    let a = c.args in
    let l = c.loop-j in
    let bs = a.items.now in
    let p = err_from_is_err_and c.from_residual.result c.from_residual.ensures.1 in
    rw (p.1, p.2) (scan-here a.at bs (length bs / 3) l.j l.s l.invariant.2 _ refl (omega arith) c.in_err-mark.ensures (faulty c.in_err-mark.field-0.0))

pub step-s-requires : goal.step-s-requires
step-s-requires c = let a = c.args in let l = c.loop-j in let bs = a.items.now in steps a.at (code_at bs l.j) l.j l.s l.invariant.0 (ap found_number (sym c.in_ok-mark.ensures))

pub loop-j-preserved : goal.loop-j-preserved
loop-j-preserved c = let a = c.args in let l = c.loop-j in let bs = a.items.now in let S = steps a.at (code_at bs l.j) l.j l.s l.invariant.0 (ap found_number (sym c.in_ok-mark.ensures)) in let e = c.step-s.ensures in let small = behind-small (code_at bs l.j) l.j (length bs / 3) l.s S l.invariant.1 (omega arith) in (subst (λ (s : Scan). s.more ≤ 8) (sym e) small.0, subst (λ (s : Scan). s.outer ≤ length bs / 3) (sym e) small.1, scan-next a.at bs (length bs / 3) l.j l.s l.invariant.2 (omega arith) (ap found_number (sym c.in_ok-mark.ensures)) ∙ ap (λ (s : Scan). scan_found a.at bs (length bs / 3 - (l.j + 1)) (l.j + 1) s) (sym e))

pub overflow_mul-s : goal.overflow_mul-s
overflow_mul-s c = omega (arith, c.loop-j.invariant.1, c.requires.0)

pub overflow_add-at : goal.overflow_add-at
overflow_add-at c = omega (arith, c.loop-j.invariant.1, c.requires.0, c.requires.1)

pub returns-then-s-ne-MOST_DEEP : goal.returns-then-s-ne-MOST_DEEP
returns-then-s-ne-MOST_DEEP c = let a = c.args in let l = c.loop-j in let bs = a.items.now in scan-unclosed a.at bs (length bs / 3) l.j l.s l.invariant.2 refl (omega arith) _ c.if-s-ne-MOST_DEEP.true c.fault.ensures

pub returns-then-number-ne0 : goal.returns-then-number-ne0
returns-then-number-ne0 c = let a = c.args in let l = c.loop-j in let bs = a.items.now in scan-long a.at bs (length bs / 3) l.j l.s l.invariant.2 refl (omega arith) _ c.if-s-ne-MOST_DEEP.false (λ z. c.if-number-ne0.true (c.number.ensures ∙ z)) c.fault-then-number-ne0.ensures

pub returns : goal.returns
returns c = let a = c.args in let l = c.loop-j in let bs = a.items.now in scan_good a.at bs (length bs / 3) l.j l.s l.invariant.2 refl (omega arith) _ c.if-s-ne-MOST_DEEP.false (sym c.number.ensures ∙ c.if-number-ne0.false) refl

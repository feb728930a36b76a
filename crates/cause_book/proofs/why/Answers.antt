-- `why` meets its contract: no body below j has a fault.
use native.Mathlib.Omega.{arith}
use mathlib.Core.Path.{refl}
use Rattle.std.proofs.lemmas.Result.{err_from_is_err_and}
use Rattle.cause_book.proofs.Laws.Ways.{told-good, told-refused, front-good, front-refused, none_yet, next-clear, why-contents, why-first, why-none}
use Rattle.cause_book.proofs.why.Goals as goal

pub returns-in_err-told : goal.returns-in_err-told
returns-in_err-told c =
    let bs = c.args.book.now in
    let p = err_from_is_err_and c.from_residual.result c.from_residual.ensures.1 in
    rw (p.1, p.2) (why-contents bs _ _ c.first.ensures (front-refused bs _ c.first.ensures _ c.in_err-told.ensures) c.in_err-told.ensures)

pub loop-j-init : goal.loop-j-init
loop-j-init c = none_yet c.args.book.now

pub body_at-requires : goal.body_at-requires
body_at-requires c = (front-good c.args.book.now _ c.first.ensures c.in_ok-told.ensures, omega (arith, c.count-j-end.ensures))

pub returns-in_err-told-2 : goal.returns-in_err-told-2
returns-in_err-told-2 c =
    let bs = c.args.book.now in
    let l = c.loop-j in
    let p = err_from_is_err_and c.from_residual-in_err-told-2.result c.from_residual-in_err-told-2.ensures.1 in
    let h = c.in_err-told-2.ensures in
    rw (p.1, p.2) (why-first bs _ l.j _ (front-good bs _ c.first.ensures c.in_ok-told.ensures) (omega (arith, c.count-j-end.ensures)) l.invariant c.body_at.ensures (told-refused _ _ _ h) h)

pub loop-j-preserved : goal.loop-j-preserved
loop-j-preserved c = let l = c.loop-j in next-clear c.args.book.now l.j _ l.invariant c.body_at.ensures (told-good _ _ c.in_ok-told-2.ensures)

pub returns : goal.returns
returns c =
    let bs = c.args.book.now in
    why-none bs _ c.loop-j.j (front-good bs _ c.first.ensures c.in_ok-told.ensures) (omega (arith, c.count-j-end.ensures)) c.loop-j.invariant refl

-- `why_body` meets its contract: the contents, 14, then the body.
use native.Mathlib.Omega.{arith}
use Rattle.std.proofs.lemmas.Result.{err_from_is_err_and}
use Rattle.cause_book.proofs.Laws.Ways.{front-good, front-refused, body-contents, body-beyond, body-here}
use Rattle.cause_book.proofs.why_body.Goals as goal

pub returns-in_err-told : goal.returns-in_err-told
returns-in_err-told c =
    let bs = c.args.book.now in
    let p = err_from_is_err_and c.from_residual.result c.from_residual.ensures.1 in
    rw (p.1, p.2) (body-contents bs _ c.args.j _ c.first.ensures (front-refused bs _ c.first.ensures _ c.in_err-told.ensures) c.in_err-told.ensures)

pub returns-then-j-count : goal.returns-then-j-count
returns-then-j-count c =
    let bs = c.args.book.now in
    body-beyond bs _ c.args.j _ (front-good bs _ c.first.ensures c.in_ok-told.ensures) (omega (arith, c.count.ensures)) c.fault.ensures c.told-then-j-count.ensures

pub body_at-requires : goal.body_at-requires
body_at-requires c = (front-good c.args.book.now _ c.first.ensures c.in_ok-told.ensures, omega (arith, c.count.ensures))

pub returns : goal.returns
returns c =
    let bs = c.args.book.now in
    body-here bs _ c.args.j _ (front-good bs _ c.first.ensures c.in_ok-told.ensures) (omega (arith, c.count.ensures)) c.body_at.ensures c.told-2.ensures

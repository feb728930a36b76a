-- `two_fine` meets its contract: each test holds.
use borrow.Author.Tests.{leb-true, ltb-true, eqb-false, not-true}
use Rattle.circuit_number.proofs.Laws.Fine.{both, two-accepted}
use Rattle.circuit_number.proofs.two_fine.Goals as goal

pub returns : goal.returns
returns c e d =
    let a = both _ _ e in
    let b = both _ _ a.0 in
    let g = both _ _ b.0 in
    let h = both _ _ g.0 in
    two-accepted d c.args.code c.args.first c.args.second c.args.width (leb-true _ _ h.0) (leb-true _ _ h.1) (ltb-true _ _ g.1) (ltb-true _ _ b.1) (eqb-false _ _ (not-true _ a.1))

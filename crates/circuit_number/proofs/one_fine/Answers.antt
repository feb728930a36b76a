-- `one_fine` meets its contract: each test holds.
use borrow.Author.Tests.{leb-true, ltb-true, eqb-true}
use Rattle.circuit_number.proofs.Laws.Fine.{both, one-accepted}
use Rattle.circuit_number.proofs.one_fine.Goals as goal

pub returns : goal.returns
returns c e d =
    let a = both _ _ e in
    let b = both _ _ a.0 in
    let g = both _ _ b.0 in
    one-accepted d c.args.code c.args.first c.args.second c.args.width (leb-true _ _ g.0) (leb-true _ _ g.1) (ltb-true _ _ b.1) (eqb-true _ _ a.1)

-- `of` meets its contract: the pair of the call, told.
use Rattle.told_tableau.proofs.Laws.Told.{pair-told}
use Rattle.told_tableau.proofs.of.Goals as goal

pub returns : goal.returns
returns c =
    let t = c.of in
    pair-told c.args.edition c.args.width c.args.gates.now c.args.rows.now t.result c.args.h.now c.tell_pair.result t.new.rows c.tell_pair.new.h t.ensures c.tell_pair.ensures

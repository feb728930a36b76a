-- `name_body` meets its contract: by whether a label would pass the last one.
use Rattle.book_tables.proofs.Laws.Names.{fits, body-past, body-given}
use Rattle.book_tables.proofs.name_body.Goals as goal

pub returns-then-past : goal.returns-then-past
returns-then-past c = body-past _ _ _ c.count-n.ensures c.past.ensures _ c.if-past.true c.fresh.ensures

pub rising-requires : goal.rising-requires
rising-requires c = (c.count-n.ensures.bound, fits _ _ c.past.ensures c.if-past.false)

pub returns : goal.returns
returns c = body-given _ _ _ c.count-n.ensures c.past.ensures _ c.if-past.false c.rising.ensures

-- `record_body` meets its contract: too short, or the chance of the part behind the string.
use native.Mathlib.Omega.{arith}
use Rattle.book_bodies.proofs.Laws.Record.{record-short, record-law}
use Rattle.book_bodies.proofs.record_body.Goals as goal

pub returns-then-part-lt4 : goal.returns-then-part-lt4
returns-then-part-lt4 c =
    let a = c.args in
    record-short a.width a.part.now c.refused.result (omega arith) c.refused.ensures

pub returns : goal.returns
returns c =
    let a = c.args in
    record-law a.width a.part.now (omega arith) c.chance_of-a.result c.said_told.result c.fresh.result c.read_u32-input.result
    c.chance_of-a.ensures c.read_u32-input.ensures.is c.said_told.ensures c.fresh.ensures

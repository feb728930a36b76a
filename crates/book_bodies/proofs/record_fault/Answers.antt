-- `record_fault` meets its contract: too short, or the number of the part behind the string.
use mathlib.Core.Path.{sym, ◌∙◌}
use native.Mathlib.Omega.{arith}
use Rattle.book_bodies.proofs.Laws.Record.{short-record, record-number-law}
use Rattle.book_bodies.proofs.record_fault.Goals as goal

pub returns-then-part-lt4 : goal.returns-then-part-lt4
returns-then-part-lt4 c =
    let a = c.args in
    sym (short-record a.width a.part.now (omega arith))

pub returns : goal.returns
returns c =
    let a = c.args in
    record-number-law a.width a.part.now (omega arith) c.number_of.result c.read_u32-input.result (c.number_of.ensures ∙ c.test.ensures) c.read_u32-input.ensures.is

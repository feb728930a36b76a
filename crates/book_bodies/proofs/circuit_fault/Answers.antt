-- `circuit_fault` meets its contract: too short, or the number of the part behind the two strings.
use mathlib.Core.Path.{sym, ◌∙◌}
use native.Mathlib.Omega.{arith}
use Rattle.book_bodies.proofs.Laws.Circuit.{short-number, number-law}
use Rattle.book_bodies.proofs.circuit_fault.Goals as goal

pub returns-then-part-lt8 : goal.returns-then-part-lt8
returns-then-part-lt8 c =
    let a = c.args in
    sym (short-number a.edition a.width a.part.now (omega arith))

pub returns : goal.returns
returns c =
    let a = c.args in
    number-law a.edition a.width a.part.now (omega arith) c.number_of.result c.read_u32-input.result c.read_u32-output.result
    (c.number_of.ensures ∙ c.test.ensures) c.read_u32-input.ensures.is c.read_u32-output.ensures.is

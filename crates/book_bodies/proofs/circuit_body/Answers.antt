-- `circuit_body` meets its contract: too short, or the amplitude of the part behind the two strings.
use native.Mathlib.Omega.{arith}
use Rattle.book_bodies.proofs.Laws.Circuit.{circuit-short, circuit-law}
use Rattle.book_bodies.proofs.circuit_body.Goals as goal

pub returns-then-part-lt8 : goal.returns-then-part-lt8
returns-then-part-lt8 c =
    let a = c.args in
    circuit-short a.edition a.width a.part.now c.refused.result (omega arith) c.refused.ensures

pub returns : goal.returns
returns c =
    let a = c.args in
    circuit-law a.edition a.width a.part.now (omega arith) c.amplitude-a.result c.said_of.result c.fresh.result c.read_u32-input.result c.read_u32-output.result
    c.amplitude-a.ensures c.read_u32-input.ensures.is c.read_u32-output.ensures.is c.said_of.ensures c.fresh.ensures

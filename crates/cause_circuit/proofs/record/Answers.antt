-- `record` meets its contract: no room for its string, or what stands behind it.
use native.Mathlib.Omega.{arith}
use Rattle.cause_circuit.proofs.Laws.Ways.{record-short, record-tested}
use Rattle.cause_circuit.proofs.record.Goals as goal

pub returns-then-part-ge4 : goal.returns-then-part-ge4
returns-then-part-ge4 c = let a = c.args in record-tested a.from a.listed 0 a.width a.part.now _ (omega arith) _ c.read_u32-input.ensures.is c.tested.ensures

pub returns : goal.returns
returns c = let a = c.args in record-short a.from a.listed 0 a.width a.part.now _ (omega arith) c.fault.ensures

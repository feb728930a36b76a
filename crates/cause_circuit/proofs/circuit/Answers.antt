-- `circuit` meets its contract: no room for its strings, or what stands behind them.
use native.Mathlib.Omega.{arith}
use Rattle.cause_circuit.proofs.Laws.Ways.{circuit-short, circuit-tested}
use Rattle.cause_circuit.proofs.circuit.Goals as goal

pub returns-then-part-lt8 : goal.returns-then-part-lt8
returns-then-part-lt8 c = let a = c.args in circuit-short a.from a.listed a.edition a.width a.part.now _ (omega arith) c.fault.ensures

pub returns : goal.returns
returns c = let a = c.args in circuit-tested a.from a.listed a.edition a.width a.part.now _ (omega arith) _ _ c.read_u32-input.ensures.is c.read_u32-output.ensures.is c.tested.ensures

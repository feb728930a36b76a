-- `size` meets its contract: test by test.
use mathlib.Core.Path.{refl}
use native.Mathlib.Omega.{arith}
use Rattle.cause_table.proofs.Laws.Ways.{size-wide, size-short, size-ties, size-length, size-sound}
use Rattle.cause_table.proofs.size.Goals as goal

pub returns-then-width-gt64 : goal.returns-then-width-gt64
returns-then-width-gt64 c = let a = c.args in size-wide a.from a.listed a.width a.bs.now _ (omega arith) c.fault.ensures

pub returns-then-bs-least : goal.returns-then-bs-least
returns-then-bs-least c = let a = c.args in size-short a.from a.listed a.width a.bs.now _ (omega arith) (omega arith) c.fault-then-bs-least.ensures

pub returns-then-k-width : goal.returns-then-k-width
returns-then-k-width c = let a = c.args in size-ties a.from a.listed a.width a.bs.now _ (omega arith) (omega arith) (omega arith) c.fault-then-k-width.ensures

pub returns-then-bs-least-2 : goal.returns-then-bs-least-2
returns-then-bs-least-2 c = let a = c.args in size-length a.from a.listed a.width a.bs.now _ (omega arith) (omega arith) (omega arith) (λ z. c.if-bs-least-2.true (omega (arith, z, c.count_of-k.ensures))) c.fault-then-bs-least-2.ensures

pub returns : goal.returns
returns c = let a = c.args in size-sound a.from a.listed a.width a.bs.now _ (omega arith) (omega arith) (omega arith) (omega arith) refl

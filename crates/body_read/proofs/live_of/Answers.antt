-- `live_of` meets its contract: one shifted, less one; or all bits.
use mathlib.Core.Path.{ap}
use Prim.Native.Nat.{ℕ, ◌-◌}
use native.Mathlib.Omega.{arith}
use lib.Pow.{pow_pos}
use Rattle.body_read.proofs.Laws.Live.{one_shifted, all_live}
use Rattle.body_read.proofs.live_of.Goals as goal

pub overflow_sub-result : goal.overflow_sub-result
overflow_sub-result c = rw (one_shifted c.args.width (omega arith)) (pow_pos c.args.width)

pub returns-then-width-lt64 : goal.returns-then-width-lt64
returns-then-width-lt64 c = ap (λ (m : ℕ). m - 1) (one_shifted c.args.width (omega arith))

pub returns-else-width-lt64 : goal.returns-else-width-lt64
returns-else-width-lt64 c = all_live c.args.width (omega arith) (omega arith)

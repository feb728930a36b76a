-- `mask_out` meets its contract: what is left above the lowest bits.
use mathlib.Core.Path.{◌∙◌}
use native.Mathlib.Omega.{arith}
use borrow.Author.Tests.{le-ltb}
use Rattle.body_bytes.proofs.Laws.Out.{out-shifted, none_out}
use Rattle.body_fault.proofs.mask_out.Goals as goal

pub returns-then-width-lt64 : goal.returns-then-width-lt64
returns-then-width-lt64 c = out-shifted c.args.width c.args.m

pub returns-else-width-lt64 : goal.returns-else-width-lt64
returns-else-width-lt64 c = le-ltb c.args.width 64 (omega arith) ∙ none_out c.args.width c.args.m (omega arith) (omega arith)

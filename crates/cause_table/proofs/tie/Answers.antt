-- `tie` meets its contract: by the mask, then by the r.
use native.Mathlib.Omega.{arith}
use mathlib.Core.Path.{refl, sym, ap, ◌∙◌}
use Prim.Native.Nat.{◌^◌}
use lib.Dec.{leb}
use Rattle.cause_table.proofs.Laws.Ways.{tie-mask, tie-side, tie-sound}
use Rattle.cause_table.proofs.tie.Goals as goal

pub returns-then-mask_out : goal.returns-then-mask_out
returns-then-mask_out c = let a = c.args in tie-mask a.from a.width a.bs.now a.j _ (sym (ap (leb (2 ^ a.width)) c.mask_of.ensures) ∙ sym c.mask_out.ensures ∙ c.if-mask_out.true) c.fault.ensures

pub returns-then-side_of-gt1 : goal.returns-then-side_of-gt1
returns-then-side_of-gt1 c = let a = c.args in tie-side a.from a.width a.bs.now a.j _ (sym (ap (leb (2 ^ a.width)) c.mask_of.ensures) ∙ sym c.mask_out.ensures ∙ c.if-mask_out.false) (omega arith) c.fault-then-side_of-gt1.ensures

pub returns : goal.returns
returns c = let a = c.args in tie-sound a.from a.width a.bs.now a.j _ (sym (ap (leb (2 ^ a.width)) c.mask_of.ensures) ∙ sym c.mask_out.ensures ∙ c.if-mask_out.false) (omega arith) refl

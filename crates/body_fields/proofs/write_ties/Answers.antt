-- `write_ties` meets its contract: the fields below j are written.
use mathlib.Core.Path.{refl, ap, ◌∙◌}
use Prim.Native.Nat.{◌-◌, ◌*◌}
use native.Mathlib.Omega.{arith}
use borrow.Rule.Slice.PartMut.{same_len_mid}
use lib.ListN.{length, take, drop, length-drop}
use Rattle.fields.specs.Bytes.{front}
use Rattle.fields.proofs.Laws.Front.{lent-part}
use Rattle.ties.specs.declared.Tie.{Tie}
use Rattle.ties.specs.Ties.{mask_at, side_at}
use Rattle.body_fields.specs.Fields.{tie_bytes}
use Rattle.body_fields.proofs.Laws.Bytes.{lent_none, lent-next, lent-done, length-tie}
use Rattle.body_fields.proofs.write_ties.Goals as goal

pub loop-j-init : goal.loop-j-init
loop-j-init c = (refl, lent_none _ _)

pub write_tie-requires : goal.write_tie-requires
write_tie-requires c = simp (lent-part, length-drop) (omega arith)

pub loop-j-preserved : goal.loop-j-preserved
loop-j-preserved c =
    let l = c.loop-j in
    let a = c.args in
    let at = 9 * l.j in (
      same_len_mid at (length l.part - at) l.part c.write_tie.new.part c.write_tie.auto.part ∙ l.invariant.0,
      lent-next 9 (λ u. tie_bytes (mask_at a.t u) (side_at a.t u)) (λ u. length-tie _ _) a.part.now l.part c.write_tie.new.part l.j at (omega arith) l.invariant.1
          (c.write_tie.ensures ∙ ap (λ (x : Tie). front (take (length l.part - at) (drop at l.part)) (tie_bytes x.mask x.side)) c.tie_at-a.ensures),
    )

pub shape_of-part : goal.shape_of-part
shape_of-part c = c.loop-j.invariant.0

pub returns : goal.returns
returns c = lent-done _ _ _ _ _ (omega arith) c.loop-j.invariant.1

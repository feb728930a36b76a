-- `write_sides` meets its contract: the fields below i are written.
use mathlib.Core.List.{[], ◌∷◌}
use mathlib.Core.Path.{refl, ap, ◌∙◌}
use Prim.Native.Nat.{◌-◌}
use native.Mathlib.Omega.{arith}
use borrow.Author.Rules.{rules}
use borrow.Rule.Slice.PartMut.{same_len_mid}
use lib.ListN.{length, take, drop}
use Rattle.fields.specs.Bytes.{front}
use Rattle.ties.specs.Ties.{side_at}
use Rattle.ties.specs.declared.Tie.{Tie}
use Rattle.body_fields.proofs.Laws.Bytes.{lent_none, lent-next, lent-done}
use Rattle.image_write.proofs.write_sides.Goals as goal

pub loop-j-init : goal.loop-j-init
loop-j-init c = (refl, lent_none _ _)

pub loop-j-preserved : goal.loop-j-preserved
loop-j-preserved c =
    let l = c.loop-j in
    let a = c.args in
    let at = l.j in (
      same_len_mid at (length l.part - at) l.part c.write_u8.new.part c.write_u8.auto.part ∙ l.invariant.0,
      lent-next 1 (λ u. side_at a.t u ∷ []) (λ v. refl) a.part.now l.part c.write_u8.new.part l.j at (omega arith) l.invariant.1
          (c.write_u8.ensures.fits (search rules) ∙ ap (λ (x : Tie). front (take (length l.part - at) (drop at l.part)) (x.side ∷ [])) c.tie_at-a.ensures),
    )

pub shape_of-part : goal.shape_of-part
shape_of-part c = c.loop-j.invariant.0

pub returns : goal.returns
returns c = lent-done _ _ _ _ _ (omega arith) c.loop-j.invariant.1

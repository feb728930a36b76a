-- `write_masks` meets its contract: the fields below i are written.
use mathlib.Core.Path.{refl, ap, ◌∙◌}
use Prim.Native.Nat.{◌-◌, ◌*◌}
use native.Mathlib.Omega.{arith}
use borrow.Author.Rules.{rules}
use borrow.Rule.Slice.PartMut.{same_len_mid}
use lib.ListN.{length, take, drop}
use Rattle.fields.specs.Bytes.{le, front}
use Rattle.fields.proofs.Laws.Front.{length-le}
use Rattle.ties.specs.Ties.{mask_at}
use Rattle.ties.specs.declared.Tie.{Tie}
use Rattle.body_fields.proofs.Laws.Bytes.{lent_none, lent-next, lent-done}
use Rattle.image_write.proofs.write_masks.Goals as goal

pub loop-j-init : goal.loop-j-init
loop-j-init c = (refl, lent_none _ _)

pub loop-j-preserved : goal.loop-j-preserved
loop-j-preserved c =
    let l = c.loop-j in
    let a = c.args in
    let at = 8 * l.j in (
      same_len_mid at (length l.part - at) l.part c.write_u64.new.part c.write_u64.auto.part ∙ l.invariant.0,
      lent-next 8 (λ u. le 8 (mask_at a.t u)) (λ v. length-le 8 _) a.part.now l.part c.write_u64.new.part l.j at (omega arith) l.invariant.1
          (c.write_u64.ensures.fits (search rules) ∙ ap (λ (x : Tie). front (take (length l.part - at) (drop at l.part)) (le 8 x.mask)) c.tie_at-a.ensures),
    )

pub shape_of-part : goal.shape_of-part
shape_of-part c = c.loop-j.invariant.0

pub returns : goal.returns
returns c = lent-done _ _ _ _ _ (omega arith) c.loop-j.invariant.1

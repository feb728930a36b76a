-- `write_labels` meets its contract: the fields below i are written.
use mathlib.Core.Path.{refl, ap, ◌∙◌}
use Prim.Native.Nat.{ℕ, ◌-◌, ◌*◌}
use native.Mathlib.Omega.{arith}
use borrow.Author.Rules.{rules}
use borrow.Rule.Slice.PartMut.{same_len_mid}
use lib.ListN.{length, take, drop}
use Rattle.fields.specs.Bytes.{le, front}
use Rattle.fields.proofs.Laws.Front.{length-le}
use Rattle.labels.specs.Labels.{label_at}
use Rattle.body_fields.proofs.Laws.Bytes.{lent_none, lent-next, lent-done}
use Rattle.image_write.proofs.write_labels.Goals as goal

pub loop-v-init : goal.loop-v-init
loop-v-init c = (refl, lent_none _ _)

pub loop-v-preserved : goal.loop-v-preserved
loop-v-preserved c =
    let l = c.loop-v in
    let a = c.args in
    let at = 2 * l.v in (
      same_len_mid at (length l.part - at) l.part c.write_u16.new.part c.write_u16.auto.part ∙ l.invariant.0,
      lent-next 2 (λ u. le 2 (label_at a.ls u)) (λ v. length-le 2 _) a.part.now l.part c.write_u16.new.part l.v at (omega arith) l.invariant.1
          (c.write_u16.ensures.fits (search rules) ∙ ap (λ (x : ℕ). front (take (length l.part - at) (drop at l.part)) (le 2 x)) c.at-l.ensures),
    )

pub shape_of-part : goal.shape_of-part
shape_of-part c = c.loop-v.invariant.0

pub returns : goal.returns
returns c = lent-done _ _ _ _ _ (omega arith) c.loop-v.invariant.1

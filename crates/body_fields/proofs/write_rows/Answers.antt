-- `write_rows` meets its contract: the fields below i are written.
use mathlib.Core.Path.{refl, ap, ◌∙◌}
use Prim.Native.Nat.{ℕ, ◌-◌, ◌*◌}
use native.Mathlib.Omega.{arith}
use borrow.Author.Rules.{rules}
use borrow.Rule.Slice.PartMut.{same_len_mid}
use lib.ListN.{length, take, drop}
use Rattle.fields.specs.Bytes.{le, front}
use Rattle.fields.proofs.Laws.Front.{length-le}
use Rattle.form.specs.Form.{row_at}
use Rattle.body_fields.proofs.Laws.Bytes.{lent_none, lent-next, lent-done}
use Rattle.body_fields.proofs.write_rows.Goals as goal

pub loop-i-init : goal.loop-i-init
loop-i-init c = (refl, lent_none _ _)

pub loop-i-preserved : goal.loop-i-preserved
loop-i-preserved c =
    let l = c.loop-i in
    let a = c.args in
    let at = 8 * l.i in (
      same_len_mid at (length l.part - at) l.part c.write_u64.new.part c.write_u64.auto.part ∙ l.invariant.0,
      lent-next 8 (λ v. le 8 (row_at a.f v)) (λ v. length-le 8 _) a.part.now l.part c.write_u64.new.part l.i at (omega arith) l.invariant.1
          (c.write_u64.ensures.fits (search rules) ∙ ap (λ (x : ℕ). front (take (length l.part - at) (drop at l.part)) (le 8 x)) c.row_at-b.ensures),
    )

pub shape_of-part : goal.shape_of-part
shape_of-part c = c.loop-i.invariant.0

pub returns : goal.returns
returns c = lent-done _ _ _ _ _ (omega arith) c.loop-i.invariant.1

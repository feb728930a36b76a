-- `pack_form` meets its contract: each turn and row is the one that its index asks for.
use borrow.Author.Rules.{rules}
use Rattle.fields.proofs.Laws.Listed.{listed-made}
use Rattle.form.specs.Form.{quarter, turn_at, row_at}
use Rattle.body_pack.specs.Slot.{slot_at, packed_mask}
use Rattle.body_pack.specs.Packed.{packed_form}
use Rattle.body_pack.proofs.pack_form.Goals as goal

pub returns : goal.returns
unfolding packed_form
returns c =
    let a = c.args in
    let turns = listed-made _ _ (λ i. quarter (turn_at a.f (slot_at a.live i))) 64 (λ k r q l e. search rules) _ c.from_fn.ensures.items in
    let signs = listed-made _ _ (λ i. packed_mask a.live (row_at a.f (slot_at a.live i))) 64 (λ k r q l e. search rules) _ c.from_fn-2.ensures.items in
    λ i. record { phase = a.f.phase; turns = turns i; signs = signs i }

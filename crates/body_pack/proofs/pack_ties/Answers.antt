-- `pack_ties` meets its contract: each set is the one that its index asks for.
use borrow.Author.Rules.{rules}
use Rattle.fields.proofs.Laws.Listed.{listed-made}
use Rattle.ties.specs.Ties.{mask_at}
use Rattle.body_pack.specs.Slot.{packed_mask}
use Rattle.body_pack.specs.Packed.{packed_ties}
use Rattle.body_pack.proofs.pack_ties.Goals as goal

pub returns : goal.returns
unfolding packed_ties
returns c =
    let a = c.args in
    let masks = listed-made _ _ (λ j. packed_mask a.live (mask_at a.t j)) 64 (λ k r q l e. search rules) _ c.from_fn-masks.ensures.items in
    λ i. record { count = a.t.count; masks = masks i; sides = a.t.sides }

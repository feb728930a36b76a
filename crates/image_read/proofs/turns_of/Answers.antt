-- `turns_of` meets its contract: each turn is the one that its index asks for.
use borrow.Author.Rules.{rules}
use Rattle.fields.proofs.Laws.Listed.{listed-made}
use Rattle.image.specs.Inner.Stated.{turn_of}
use Rattle.image_read.proofs.turns_of.Goals as goal

pub returns : goal.returns
returns c = listed-made _ _ (turn_of c.args.bs.now) 64 (λ k r q l e. search rules) _ c.from_fn.ensures.items

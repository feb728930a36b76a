-- `labels_of` meets its contract: each label is the one that its index asks for.
use borrow.Author.Rules.{rules}
use Rattle.fields.proofs.Laws.Listed.{listed-made}
use Rattle.image.specs.Inner.Stated.{label_of}
use Rattle.image_read.proofs.Laws.Parts.{labels-are}
use Rattle.image_read.proofs.labels_of.Goals as goal

pub returns : goal.returns
returns c = labels-are c.args.bs.now _ (listed-made _ _ (label_of c.args.bs.now) 64 (λ k r q l e. search rules) _ c.from_fn.ensures.items)

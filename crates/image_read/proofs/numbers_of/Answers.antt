-- `numbers_of` meets its contract: each number is the one that its index asks for.
use Prim.Native.Nat.{◌+◌, ◌*◌}
use borrow.Author.Rules.{rules}
use Rattle.fields.specs.Bytes.{number}
use Rattle.fields.proofs.Laws.Listed.{listed-made}
use Rattle.image_read.proofs.numbers_of.Goals as goal

pub returns : goal.returns
returns c = listed-made _ _ (λ v. number 8 c.args.bs.now (c.args.at + 8 * v)) 64 (λ k r q l e. search rules) _ c.from_fn.ensures.items

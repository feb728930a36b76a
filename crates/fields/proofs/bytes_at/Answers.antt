-- `bytes_at` meets its contract: each byte is the one that its index asks for.
use Prim.Native.Nat.{◌+◌}
use borrow.Author.Rules.{rules}
use Rattle.fields.specs.Bytes.{byte_at}
use Rattle.fields.proofs.Laws.Listed.{listed-made}
use Rattle.fields.proofs.bytes_at.Goals as goal

pub returns : goal.returns
returns g c = listed-made _ _ (λ i. byte_at c.args.s.now (c.args.at + i)) _ (λ k r q l e. search rules) _ c.from_fn.ensures.items

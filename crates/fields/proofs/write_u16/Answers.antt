-- `write_u16` meets its contract: the library's order of the bytes is the documents'.
use mathlib.Core.Path.{◌∙◌, subst}
use mathlib.Core.List.{List}
use Prim.Native.Nat.{ℕ}
use Rattle.fields.specs.Inner.Bytes.{Put}
use Rattle.fields.proofs.Laws.Order.{le-bytes}
use Rattle.fields.proofs.write_u16.Goals as goal

pub returns : goal.returns
returns c = subst (λ (bs : List ℕ). Put 2 bs c.args.part.now c.put.new.part) (c.to_le_bytes.ensures ∙ le-bytes 2 c.args.v) c.put.ensures

-- `read_u32` meets its contract: the library's order of the bytes is the documents'.
use mathlib.Core.Path.{◌∙◌, ap}
use native.Mathlib.Omega.{arith}
use Rattle.std.specs.Int.{from_le_bytes, w32}
use Rattle.fields.proofs.Laws.Order.{number-bytes}
use Rattle.fields.proofs.read_u32.Goals as goal

pub returns : goal.returns
returns c =
    record { is = c.from_le_bytes.ensures ∙ ap (from_le_bytes w32) c.bytes_at.ensures ∙ number-bytes 3 c.args.s.now c.args.at; small = omega (arith, c.from_le_bytes.type_inv) }

-- `write_header` meets its contract: four bytes stored.
use native.Mathlib.Omega.{arith}
use lib.ListN.{length-set}
use lib.Seq.{sets-eq}
use Rattle.fields.specs.Bytes.{front}
use Rattle.contents_lay.specs.Lay.{header_bytes}
use Rattle.contents_lay.proofs.write_header.Goals as goal

pub bounds-part-1 : goal.bounds-part-1
bounds-part-1 c = simp length-set (omega arith)

pub bounds-part-2 : goal.bounds-part-2
bounds-part-2 c = simp length-set (omega arith)

pub returns : goal.returns
unfolding front
returns c = sets-eq (header_bytes c.args.edition c.args.count) c.args.part.now 0 (omega arith)

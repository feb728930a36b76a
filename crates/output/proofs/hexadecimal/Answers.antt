-- The digits stand behind zeros up to the width.
use Rattle.output.proofs.Laws.Padded.{zeros_in_front}
use Rattle.output.proofs.hexadecimal.Goals as goal

pub returns : goal.returns
returns g c =
    let written = rw c.laid_out.ensures at (rw c.in_radix.ensures at c.write.ensures.bytes) in
    rw (← zeros_in_front c.args.width _) written

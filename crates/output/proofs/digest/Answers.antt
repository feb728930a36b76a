-- The eight digits of the lower half stand behind zeros.
use Rattle.output.proofs.Laws.Padded.{zeros_in_front}
use Rattle.output.proofs.digest.Goals as goal

pub returns : goal.returns
returns g c =
    let written = rw c.laid_out.ensures at (rw c.in_radix.ensures at c.write.ensures.bytes) in
    rw (← zeros_in_front 8 _) written

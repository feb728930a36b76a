-- The longest listing fits the area.
use Rattle.listing.proofs.Laws.Fits.{listed-most}
use Rattle.amps.proofs.main.Goals as goal

pub run-requires-clause-within : goal.run-requires-clause-within
run-requires-clause-within c = λ b t n u e p. listed-most p

-- The longest listing fits the area.
use Rattle.path_listing.proofs.Laws.Fits.{listed-most}
use Rattle.paths.proofs.main.Goals as goal

pub run-requires-clause-within : goal.run-requires-clause-within
run-requires-clause-within c = λ b t n u e p. listed-most p

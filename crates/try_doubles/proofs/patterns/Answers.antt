-- Neither of an amount's two doubles is a NaN, so each has a pattern.
use Rattle.doubles.proofs.Laws.Finite.{numbers}
use Rattle.try_doubles.proofs.patterns.Goals as goal

pub bits-requires : goal.bits-requires
bits-requires g c = (numbers _ _ _ c.in-Value.ensures).0

pub bits-requires-in-Value : goal.bits-requires-in-Value
bits-requires-in-Value g c = (numbers _ _ _ c.in-Value.ensures).1

-- The editions of a book.
use Rattle.std.specs.Prelude.{Bool, ◌||◌, ℕ, eqb}

-- "9 for an edition other than 1 or 2"
unfoldable pub good_edition : ℕ → Bool
good_edition e = eqb e 1 || eqb e 2

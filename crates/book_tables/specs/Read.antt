-- Reading a table with labels: "Whoever reads a table from a book gives a first label, and slot i gets that number plus i"
use Rattle.std.specs.Prelude.{true, false, ◌≡◌, ℕ, ◌≤◌}
use Rattle.std.specs.Int.Count.{ones}
use Rattle.exact.specs.Refusal.{out_of_range}
use Rattle.labels.specs.Labels.{rising, past_last}
use Rattle.state.specs.declared.State.{State}
use Rattle.body_read.specs.declared.Reading.{Reading as StateReading}
use Rattle.book_bodies.specs.declared.Body.{Body as StateBody}
use Rattle.book_bodies.specs.declared.Said.TheVariants.{Refused}
use Rattle.table.specs.declared.Table.{Table}
use Rattle.table.specs.Normal.{fresh}
pub use Rattle.book_tables.specs.declared.Reading.{Reading}
pub use Rattle.book_tables.specs.declared.Body.{Body}

-- a state with its live slots, which are the lowest, labelled from the first on
abbrev pub named : ℕ → State → Table
named first s = record { state = s; labels = rising first (ones s.live) }

-- "3 for labels read past 65,535, after all the book's and body's own": b is what its own numbers left; a table that was refused, and none, has no slots
pub record NamesBody (first : ℕ) (b : StateBody) (r : Body) : Type 0 where
  -- "A table has slots 0 to 63"
  pub few : ones b.table.live ≤ 64
  pub past : past_last first (ones b.table.live) ≡ true → r ≡ record { said = Refused out_of_range; table = fresh }
  pub given : past_last first (ones b.table.live) ≡ false → r ≡ record { said = b.said; table = named first b.table }

pub record NamesReading (first : ℕ) (b : StateReading) (r : Reading) : Type 0 where
  pub past : past_last first (ones b.table.live) ≡ true → r ≡ record { refusal = out_of_range; table = fresh }
  pub given : past_last first (ones b.table.live) ≡ false → r ≡ record { refusal = b.refusal; table = named first b.table }

-- a body that a reading tells, named from the first label on
pub record BodyAs (Is : StateBody → Type 0) (first : ℕ) (r : Body) : Type 0 where
  pub body : StateBody
  pub read : Is body
  pub names : NamesBody first body r

pub record ReadingAs (Is : StateReading → Type 0) (first : ℕ) (r : Reading) : Type 0 where
  pub body : StateReading
  pub read : Is body
  pub names : NamesReading first body r

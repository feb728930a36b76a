-- A table put back as bytes, where its call was not refused.
use Rattle.std.specs.Prelude.{List, ◌≢◌, ◌≡◌, ℕ}
use Rattle.exact.specs.Refusal.{accepted}
use Rattle.table.specs.declared.Table.{Table}
use Rattle.told_tables.specs.Called.{bytes_of}

-- from xs to ys by the table t of a call with the number n, r the number that is answered
pub record PutBack (xs : List ℕ) (t : Table) (n r : ℕ) (ys : List ℕ) : Type 0 where
  pub number : r ≡ n
  pub kept : r ≢ accepted → ys ≡ xs
  pub written : r ≡ accepted → ys ≡ bytes_of t

-- What the calls for C promise that ask a table in lent bytes; n is the number that they answer, 0 for none.
use Rattle.std.specs.Prelude.{List, ◌≢◌, ◌≡◌, ℕ, None, Some, Result, Ok}
use Rattle.exact.specs.Refusal.{accepted}
use Rattle.exact.specs.declared.Amount.{Amount}
use Rattle.exact.specs.declared.Refusal.{Refusal}
use Rattle.call_answers.specs.Counted.{Counted, counted_number}
use Rattle.table.specs.declared.Table.{Table}
use Rattle.table.specs.Answers.{EntryAt, SpreadOf}
use Rattle.image_read.specs.declared.Reading.{Reading}
use Rattle.image_read.specs.Read.{Reads}
use Rattle.told.specs.Told.{numbered, Told, AnswerTold}
use Rattle.told_tables.specs.Called.{held}

-- an entry of a table
pub record EntryTells (t : Table) (x : ℕ) (before : Told) (n : ℕ) (after : Told) : Type 0 where
  pub answer : Result Amount Refusal
  pub is : EntryAt t x answer
  pub tells : AnswerTold (numbered answer) before n after

-- an entry of the table whose bytes bs are: refused as their reading is, then as the entry is
pub record EntryAsked (bs : List ℕ) (x : ℕ) (before : Told) (n : ℕ) (after : Told) : Type 0 where
  pub reading : Reading
  pub reads : Reads bs reading
  pub refused : reading.refusal ≢ accepted → (n ≡ reading.refusal) × (after ≡ before)
  pub given : reading.refusal ≡ accepted → EntryTells (held reading) x before n after

-- what stands behind the two pointers of Spread
pub record Spreading : Type 0 where
  pub none : ℕ
  pub e : ℕ

abbrev pub spreading : ℕ → ℕ → Spreading
spreading z k = record { none = z; e = k }

-- "none": 1 and 0; or else 0 and "the e for which exactly 2^e entries are not zero"
pub record SpreadShown (c : Counted) (before : Spreading) (n : ℕ) (after : Spreading) : Type 0 where
  pub number : n ≡ counted_number c
  pub kept : n ≢ accepted → after ≡ before
  pub nothing : c ≡ Ok None → after ≡ spreading 1 0
  pub exponent : (k : ℕ) → c ≡ Ok (Some k) → after ≡ spreading 0 k

pub record SpreadTells (t : Table) (before : Spreading) (n : ℕ) (after : Spreading) : Type 0 where
  pub answer : Counted
  pub is : SpreadOf t answer
  pub tells : SpreadShown answer before n after

-- the spread of the table whose bytes bs are: refused as their reading is
pub record SpreadAsked (bs : List ℕ) (before : Spreading) (n : ℕ) (after : Spreading) : Type 0 where
  pub reading : Reading
  pub reads : Reads bs reading
  pub refused : reading.refusal ≢ accepted → (n ≡ reading.refusal) × (after ≡ before)
  pub given : reading.refusal ≡ accepted → SpreadTells (held reading) before n after

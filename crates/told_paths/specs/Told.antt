-- What the call for C on the paths of a table body puts behind the pointers that it is lent; n is the number that it answers, 0 for none.
use Rattle.std.specs.Prelude.{List, ◌≢◌, ◌≡◌, ℕ, ℤ, Result, Ok, Err}
use Rattle.exact.specs.declared.Power.{Power}
use Rattle.exact.specs.Refusal.{accepted}
use Rattle.exact.specs.Code.{refusal_in}
use Rattle.exact.specs.declared.Refusal.{Refusal}
use Rattle.state.specs.declared.State.{State}
use Rattle.body_read.specs.declared.Reading.{Reading}
use Rattle.body_read.specs.Read.{Reads}
use Rattle.path_sum.specs.declared.Four.{Four}
use Rattle.path_sum.specs.declared.PathSum.{PathSum}
use Rattle.path_sum.specs.Paths.{PathsAdded}

-- what stands behind the five pointers: "the four numbers and power"
pub record Five : Type 0 where
  pub c0 : ℤ
  pub c1 : ℤ
  pub c2 : ℤ
  pub c3 : ℤ
  pub power : ℤ

abbrev pub five : ℤ → ℤ → ℤ → ℤ → ℤ → Five
five a b c d s = record { c0 = a; c1 = b; c2 = c; c3 = d; power = s }

-- a path sum told: refused by its number, with the five as they were; or the four numbers and the power
pub record SumTold (r : Result PathSum Refusal) (before : Five) (n : ℕ) (after : Five) : Type 0 where
  pub number : n ≡ refusal_in r
  pub kept : (k : Refusal) → r ≡ Err k → after ≡ before
  pub given : (f : Four) (s : Power) → r ≡ Ok (record { four = f; power = s }) → after ≡ five f.c0 f.c1 f.c2 f.c3 s.0

-- of a table
pub record SumTells (t : State) (before : Five) (n : ℕ) (after : Five) : Type 0 where
  pub answer : Result PathSum Refusal
  pub is : PathsAdded t answer
  pub tells : SumTold answer before n after

-- of a table body: refused as the body is, then as its paths are
pub record PathsTold (width : ℕ) (bs : List ℕ) (before : Five) (n : ℕ) (after : Five) : Type 0 where
  pub reading : Reading
  pub reads : Reads width bs reading
  pub refused : reading.refusal ≢ accepted → (n ≡ reading.refusal) × (after ≡ before)
  pub given : reading.refusal ≡ accepted → SumTells reading.table before n after

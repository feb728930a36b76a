-- What the calls for C on a circuit and on a table body answer and leave behind the pointers that they are lent; n is the number that they answer, 0 for none.
use Rattle.std.specs.Prelude.{List, ◌≢◌, ◌≡◌, ℕ, Result}
use Rattle.exact.specs.Refusal.{accepted}
use Rattle.exact.specs.declared.Amount.{Amount}
use Rattle.exact.specs.declared.Refusal.{Refusal}
use Rattle.state.specs.declared.State.{State}
use Rattle.call_answers.specs.Answers.{EntryAt}
use Rattle.circuit.specs.Amplitude.{Amplitude}
use Rattle.body_read.specs.declared.Reading.{Reading}
use Rattle.body_read.specs.Read.{Reads}
use Rattle.body_write.specs.Write.{BodyWritten}
use Rattle.told.specs.Told.{numbered, Told, AnswerTold}

-- the amplitude of a circuit of an edition
pub record AmplitudeTold (edition width input output : ℕ) (bs : List ℕ) (before : Told) (n : ℕ) (after : Told) : Type 0 where
  pub answer : Result Amount Refusal
  pub is : Amplitude edition width input output bs answer
  pub tells : AnswerTold (numbered answer) before n after

-- an entry of a table
pub record EntryTells (t : State) (x : ℕ) (before : Told) (n : ℕ) (after : Told) : Type 0 where
  pub answer : Result Amount Refusal
  pub is : EntryAt t x answer
  pub tells : AnswerTold (numbered answer) before n after

-- the entry of a table body at an assignment: refused as the body is, then as the entry is
pub record EntryTold (width : ℕ) (bs : List ℕ) (x : ℕ) (before : Told) (n : ℕ) (after : Told) : Type 0 where
  pub reading : Reading
  pub reads : Reads width bs reading
  pub refused : reading.refusal ≢ accepted → (n ≡ reading.refusal) × (after ≡ before)
  pub given : reading.refusal ≡ accepted → EntryTells reading.table x before n after

-- a table body written into an area from a start on: refused as the body is, then as the writer does; and how many bytes
pub record WriteTold (width : ℕ) (bs xs : List ℕ) (start n bytes : ℕ) (ys : List ℕ) : Type 0 where
  pub reading : Reading
  pub reads : Reads width bs reading
  pub refused : reading.refusal ≢ accepted → (n ≡ reading.refusal) × (bytes ≡ 0) × (ys ≡ xs)
  pub written : reading.refusal ≡ accepted → BodyWritten reading.table xs start (record { refusal = n; bytes = bytes }) ys

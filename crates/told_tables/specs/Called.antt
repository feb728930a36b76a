-- A call for C on a table that lives in lent bytes: the table is read from them, the call is made on it, and what it answers is told.
use Rattle.std.specs.Prelude.{List, ◌≢◌, ◌≡◌, ℕ}
use Rattle.exact.specs.Refusal.{accepted}
use Rattle.table.specs.declared.Table.{Table}
use Rattle.image.specs.Image.{image_bytes}
use Rattle.image_read.specs.declared.Reading.{Reading}
use Rattle.image_read.specs.Read.{Reads}

-- the bytes of a table
abbrev pub bytes_of : Table → List ℕ
bytes_of t = image_bytes t.state t.labels

-- the table that was read
abbrev pub held : Reading → Table
held r = record { state = r.state; labels = r.labels }

-- an answer a with P told: its number, and where that is 0 what stands behind the pointers, p, is as it says; where refused p is o, what stood there before
pub record Answered {A O : Type 0} (P : A → Type 0) (number : A → ℕ) (after : A → O) (o : O) (n : ℕ) (p : O) : Type 0 where
  pub answer : A
  pub is : P answer
  pub number_is : n ≡ number answer
  pub kept : n ≢ accepted → p ≡ o
  pub told : n ≡ accepted → p ≡ after answer

-- a call on the table whose bytes bs are: refused as their reading is, by 13 or 12, with nothing changed; or answered as the call on that table is
pub record Called {A O : Type 0} (bs : List ℕ) (P : Table → A → Type 0) (number : A → ℕ) (after : A → O) (o : O) (n : ℕ) (p : O) : Type 0 where
  pub reading : Reading
  pub reads : Reads bs reading
  pub refused : reading.refusal ≢ accepted → (n ≡ reading.refusal) × (p ≡ o)
  pub given : reading.refusal ≡ accepted → Answered (P (held reading)) number after o n p

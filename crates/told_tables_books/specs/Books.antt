-- What the call for C promises that writes a table in lent bytes as a body of a book; n is the number that it answers, 0 for none.
use Rattle.std.specs.Prelude.{List, ◌≢◌, ◌≡◌, ℕ}
use Rattle.exact.specs.Refusal.{accepted}
use Rattle.body_write.specs.Write.{BodyWritten}
use Rattle.image_read.specs.declared.Reading.{Reading}
use Rattle.image_read.specs.Read.{Reads}

-- the table whose bytes bs are, written into an area from a start on: refused as their reading is, then as the writer does; and how many bytes
pub record TableWriteTold (bs xs : List ℕ) (start n bytes : ℕ) (ys : List ℕ) : Type 0 where
  pub reading : Reading
  pub reads : Reads bs reading
  pub refused : reading.refusal ≢ accepted → (n ≡ reading.refusal) × (bytes ≡ 0) × (ys ≡ xs)
  pub written : reading.refusal ≡ accepted → BodyWritten reading.state xs start (record { refusal = n; bytes = bytes }) ys

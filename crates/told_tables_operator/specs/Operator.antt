-- What the call for C promises that hands over the operator table of a circuit; n is the number that it answers, 0 for none.
use Rattle.std.specs.Prelude.{List, ◌≢◌, ◌≡◌, ℕ, length}
use Rattle.exact.specs.Refusal.{accepted, area_short}
use Rattle.table.specs.declared.Changed.{Changed}
use Rattle.image.specs.Image.{image_size}
use Rattle.operator.specs.Calls.{TableOf}
use Rattle.told_tables.specs.Called.{bytes_of}

-- the operator table as bytes: refused as the circuit is, then by 13 where they are not 1,293, with no byte changed; or its bytes
pub record OperatorTold (e w : ℕ) (bs xs : List ℕ) (n : ℕ) (ys : List ℕ) : Type 0 where
  pub answer : Changed
  pub is : TableOf e w bs answer
  pub refused : answer.refusal ≢ accepted → n ≡ answer.refusal
  pub short : answer.refusal ≡ accepted → length xs ≢ image_size → n ≡ area_short
  pub number : answer.refusal ≡ accepted → length xs ≡ image_size → n ≡ accepted
  pub kept : n ≢ accepted → ys ≡ xs
  pub done : n ≡ accepted → ys ≡ bytes_of answer.table

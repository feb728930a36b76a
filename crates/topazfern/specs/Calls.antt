-- What the calls for C answer and leave behind the pointers that they are lent, call by call; n is the number that they answer, 0 for none.
use Rattle.std.specs.Prelude.{List, ℕ, Result}
use Rattle.book_bodies.specs.declared.Body.{Body}
use Rattle.book.specs.Read.{ReadsBody, ReadsStrict}
use Rattle.exact.specs.declared.Chance.{Chance}
use Rattle.exact.specs.declared.Refusal.{Refusal}
use Rattle.record.specs.Chanced.{Chanced}
use Rattle.told.specs.Told.{numbered, Odds, ChanceTold, Shown, BodyTold}

-- the chance of a record
pub record RecordTold (width input : ℕ) (bs : List ℕ) (before : Odds) (n : ℕ) (after : Odds) : Type 0 where
  pub answer : Result Chance Refusal
  pub is : Chanced width input bs answer
  pub tells : ChanceTold (numbered answer) before n after

-- body j of a book, whatever its other bodies are
pub record ReadTold (bs : List ℕ) (j : ℕ) (before : Shown) (n : ℕ) (after : Shown) : Type 0 where
  pub body : Body
  pub reads : ReadsBody bs j body
  pub tells : BodyTold body before n after

-- body j of a book, "all or nothing"
pub record StrictReadTold (bs : List ℕ) (j : ℕ) (before : Shown) (n : ℕ) (after : Shown) : Type 0 where
  pub body : Body
  pub reads : ReadsStrict bs j body
  pub tells : BodyTold body before n after

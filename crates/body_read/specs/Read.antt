-- Reading a table's body: the number exactly, and the table.
use Rattle.std.specs.Prelude.{◌≡◌, true, false, List, ℕ}
use Rattle.exact.specs.Refusal.{accepted, bad_body, not_normal}
use Rattle.state.specs.declared.State.{State}
use Rattle.state.specs.Entry.{fresh_table}
use Rattle.state.specs.Normal.{Normal}
use Rattle.body_bytes.specs.Body.{body_fault}
use Rattle.body_read.specs.Table.{table_of}
pub use Rattle.body_read.specs.declared.Reading.{Reading}

-- the number that refused a body, 0 for none, beside a table
abbrev pub reading : ℕ → State → Reading
reading k t = record { refusal = k; table = t }

-- r is what reading a body of width n answers. "Table body: 11 before 12." "A refusal answers its number only, with the table unchanged (in a join, the first; where no table was handed in, the fresh one)"
pub record Reads (n : ℕ) (bs : List ℕ) (r : Reading) : Type 0 where
  pub fault : body_fault n bs ≡ true → r ≡ reading bad_body fresh_table
  -- 12: "a table handed in or read is not normal"
  pub broken : body_fault n bs ≡ false → (Normal (table_of n bs) → ⊥) → r ≡ reading not_normal fresh_table
  pub sound : body_fault n bs ≡ false → Normal (table_of n bs) → r ≡ reading accepted (table_of n bs)
  -- "Each accepted call hands out a normal table."
  pub normal : r.refusal ≡ accepted → Normal (table_of n bs)

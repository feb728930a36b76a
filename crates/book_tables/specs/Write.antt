-- The writer of a table: "A written body carries no labels."
use Rattle.std.specs.Prelude.{List, ◌≢◌, ◌≡◌, ℕ, length}
use Rattle.exact.specs.Refusal.{accepted, not_normal}
use Rattle.fields.specs.Bytes.{over}
use Rattle.body_write.specs.declared.Written.{Written}
use Rattle.body_write.specs.Body.{body_bytes}
use Rattle.body_write.specs.Write.{body_number}
use Rattle.table.specs.declared.Table.{Table}
use Rattle.table.specs.Normal.{Normal}

-- the writer's answer, and the area from xs to ys: the bytes are those of the table's state
pub record TableWritten (t : Table) (xs : List ℕ) (start : ℕ) (r : Written) (ys : List ℕ) : Type 0 where
  -- 12: "a table handed in or read is not normal"
  pub broken : (Normal t → ⊥) → r.refusal ≡ not_normal
  -- "Writers: 12, 9, 10, 13"
  pub sound : Normal t → r.refusal ≡ body_number (length xs) start t.state
  -- "A refusal answers its number only, .. a writer 0 bytes"
  pub nothing : r.refusal ≢ accepted → r.bytes ≡ 0
  pub kept : r.refusal ≢ accepted → ys ≡ xs
  -- "Each answers the bytes written; all other bytes stay."
  pub count : r.refusal ≡ accepted → r.bytes ≡ length (body_bytes t.state)
  pub written : r.refusal ≡ accepted → ys ≡ over xs start (body_bytes t.state)

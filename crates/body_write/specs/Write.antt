-- The writer of a table's body: what it refuses, what it answers and how it leaves the area.
use Rattle.std.specs.Prelude.{List, [], ◌∷◌, ◌≢◌, ◌≡◌, ℕ, ◌+◌, ltb, length}
use Rattle.exact.specs.Refusal.{accepted, not_normal, area_short, first, ◌gives◌}
use Rattle.fields.specs.Bytes.{over}
use Rattle.state.specs.declared.State.{State}
use Rattle.state.specs.Normal.{Normal}
use Rattle.body_write.specs.Body.{body_bytes}
pub use Rattle.body_write.specs.declared.Written.{Written}

-- 13: "lent area too short for what is to be written, or a start beyond its end", in an area of so many bytes
abbrev pub body_number : ℕ → ℕ → State → ℕ
body_number room start t = first (ltb room (start + length (body_bytes t)) gives area_short ∷ [])

-- the writer's answer, and the area from xs to ys
pub record BodyWritten (t : State) (xs : List ℕ) (start : ℕ) (r : Written) (ys : List ℕ) : Type 0 where
  -- 12: "a table handed in or read is not normal"
  pub broken : (Normal t → ⊥) → r.refusal ≡ not_normal
  -- "Writers: 12, 9, 10, 13"
  pub sound : Normal t → r.refusal ≡ body_number (length xs) start t
  -- "A refusal answers its number only, .. a writer 0 bytes"
  pub nothing : r.refusal ≢ accepted → r.bytes ≡ 0
  pub kept : r.refusal ≢ accepted → ys ≡ xs
  -- "Each answers the bytes written; all other bytes stay."
  pub count : r.refusal ≡ accepted → r.bytes ≡ length (body_bytes t)
  pub written : r.refusal ≡ accepted → ys ≡ over xs start (body_bytes t)

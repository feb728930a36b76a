-- A table body that was read, written again: what the writer answers and how it leaves the area.
use Rattle.std.specs.Prelude.{List, [], ◌∷◌, ◌≡◌, ℕ, ◌+◌, ltb, length}
use Rattle.exact.specs.Refusal.{accepted, area_short, first, ◌gives◌}
use Rattle.fields.specs.Bytes.{over}
use Rattle.body_write.specs.declared.Written.{Written}

-- the answer w, and the area from xs to ys, of a writer of the bytes bs from a start on
pub record WrittenAgain (bs xs : List ℕ) (start : ℕ) (w : Written) (ys : List ℕ) : Type 0 where
  -- nothing but room can be wanting; 13: "lent area too short for what is to be written, or a start beyond its end"
  pub number : w.refusal ≡ first (ltb (length xs) (start + length bs) gives area_short ∷ [])
  -- "Each answers the bytes written; all other bytes stay."
  pub count : w.refusal ≡ accepted → w.bytes ≡ length bs
  pub area : w.refusal ≡ accepted → ys ≡ over xs start bs

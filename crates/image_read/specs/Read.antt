-- Reading a table from lent bytes: the number exactly, and the table.
use Rattle.std.specs.Prelude.{List, ◌≢◌, ◌≡◌, ℕ, length}
use Rattle.exact.specs.Refusal.{accepted, not_normal, area_short}
use Rattle.state.specs.declared.State.{State}
use Rattle.state.specs.Entry.{fresh_table}
use Rattle.labels.specs.declared.Labels.{Labels}
use Rattle.labels.specs.Labels.{no_labels}
use Rattle.image.specs.Image.{image_size, Images}
pub use Rattle.image_read.specs.declared.Reading.{Reading}

-- the number that refused the bytes, 0 for none, beside a state and labels
abbrev pub reading : ℕ → State → Labels → Reading
reading n t ls = record { refusal = n; state = t; labels = ls }

-- r is what reading bs answers: 13 of another length, then 12 of the bytes of no normal table, and else the table whose bytes they are; where refused the fresh one
pub record Reads (bs : List ℕ) (r : Reading) : Type 0 where
  pub short : length bs ≢ image_size → r ≡ reading area_short fresh_table no_labels
  -- 12: "a table handed in or read is not normal"
  pub broken : length bs ≡ image_size → ((t : State) (ls : Labels) → Images bs t ls → ⊥) → r ≡ reading not_normal fresh_table no_labels
  -- the bytes of a normal table read back as that table
  pub sound : (t : State) (ls : Labels) → Images bs t ls → r ≡ reading accepted t ls
  -- bytes that read as a table are the bytes of it
  pub own : r.refusal ≡ accepted → Images bs r.state r.labels

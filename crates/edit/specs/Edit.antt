-- What an edit of a book answers and how it leaves the area.
use Rattle.std.specs.Prelude.{List, ◌++◌, ◌≢◌, ◌≡◌, ℕ, ◌+◌, ◌-◌, length, take, drop, replicate}
use Rattle.exact.specs.Refusal.{accepted}
use Rattle.edit_numbers.specs.Volume.{Edit, volume_of, edited, closed_up}
use Rattle.edit_numbers.specs.Number.{EditNumber}
pub use Rattle.edit.specs.declared.Edited.{Edited}

-- "An edit answers the new length; a refused one 0"
abbrev pub refusal : ℕ → Edited
refusal k = record { refusal = k; length = 0 }

abbrev pub new_length : ℕ → Edited
new_length n = record { refusal = accepted; length = n }

-- the area xs, whose first n bytes were a book, with the book bs at its front. "Afterwards the front of the area is an accepted book, and bytes beyond it are zero up to the old end."
abbrev pub closed : List ℕ → ℕ → List ℕ → List ℕ
closed xs n bs = bs ++ (replicate (n - length bs) 0 ++ drop (length bs + (n - length bs)) xs)

-- "Contents and bodies close up, so freed room serves the next body, and the other bodies keep their bytes and order."
abbrev pub after : List ℕ → ℕ → Edit → List ℕ
after xs n e = closed_up (edited e (volume_of (take n xs)))

-- the answer to an edit of the first n bytes of an area, and the area from xs to ys
pub record Edits (xs : List ℕ) (n : ℕ) (e : Edit) (r : Edited) (ys : List ℕ) : Type 0 where
  pub number : EditNumber xs n e r.refusal
  -- "a refused one 0, with no byte changed"
  pub refused : r.refusal ≢ accepted → (r ≡ refusal r.refusal) × (ys ≡ xs)
  pub done : r.refusal ≡ accepted → (r ≡ new_length (length (after xs n e))) × (ys ≡ closed xs n (after xs n e))

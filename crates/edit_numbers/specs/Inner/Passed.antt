-- What is so of an edit that is not refused.
use Rattle.std.specs.Prelude.{false, List, ◌≡◌, ℕ, ◌≤◌}
use Rattle.exact.specs.Refusal.{accepted}
use Rattle.contents.specs.Contents.{edition_of, count_of}
use Rattle.book.specs.Book.{BookNumber}
use Rattle.edit_numbers.specs.Volume.{Edit}
use Rattle.edit_numbers.specs.Number.{missing, bad_new, OwnOf, seventeenth, size_after}

pub record Passed (bs : List ℕ) (room : ℕ) (e : Edit) : Type 0 where
  pub whole : BookNumber bs accepted
  pub there : missing e (count_of bs) ≡ false
  pub kind : bad_new (edition_of bs) e ≡ false
  pub own : OwnOf (edition_of bs) e accepted
  pub few : seventeenth e (count_of bs) ≡ false
  pub short : size_after bs e ≤ 60000
  pub fits : size_after bs e ≤ room

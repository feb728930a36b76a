-- The bodies of a book after an edit: those before a place of the old book, a new body, and those from another place on.
use Rattle.std.specs.Prelude.{List, ◌++◌, ◌≡◌, ℕ, ◌+◌, ◌-◌, ◌*◌, ◌≤◌, length, take, drop}
use Rattle.contents.specs.Contents.{count_of}
use Rattle.body_fields.specs.Fields.{joined}
use Rattle.edit_numbers.specs.Volume.{Volume}

pub record Parts (bs : List ℕ) (v : Volume) (from to : ℕ) (new : List ℕ) : Type 0 where
  pub first : 4 + 8 * count_of bs ≤ from
  pub gone : from ≤ to
  pub last : to ≤ length bs
  pub bodies :
      joined v.count v.body
      ≡ take (from - (4 + 8 * count_of bs)) (drop (4 + 8 * count_of bs) bs) ++ (new ++ take (length bs - to) (drop to bs))

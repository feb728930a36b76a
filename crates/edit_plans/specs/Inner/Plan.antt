-- A plan of an edit: the lists of the book after it, and the parts of its bodies.
use Rattle.std.specs.Prelude.{List, ◌⊎◌, ◌≡◌, ℕ, ◌+◌, ◌*◌, ◌≤◌, ◌<◌, length, take}
use Rattle.fields.specs.Listed.{listed}
use Rattle.contents.specs.Contents.{count_of, contents_number}
use Rattle.edit_numbers.specs.Volume.{Volume}
use Rattle.edit_numbers.specs.Inner.Parts.{Parts}
use Rattle.edit_plans.specs.Inner.Lists.{Lists}
pub use Rattle.edit_plans.specs.declared.Plan.{Plan}

-- a book with good contents, and a new body whose length the contents can state
pub record NewFits (bs new : List ℕ) : Type 0 where
  pub good : contents_number bs ≡ 0
  pub short : length new < 65536

-- the lists of a book's bodies
pub record Held (v : Volume) (l : Lists) : Type 0 where
  pub counted : l.count ≡ v.count
  pub few : v.count ≤ 16
  pub long : (length l.kinds ≡ 16) × (length l.widths ≡ 16) × (length l.lengths ≡ 16)
  pub kinds : take l.count l.kinds ≡ listed v.count v.kind
  pub widths : take l.count l.widths ≡ listed v.count v.width
  pub lengths : take l.count l.lengths ≡ listed v.count (λ i. length (v.body i))

pub record Planned (bs : List ℕ) (v : Volume) (new : List ℕ) (p : Plan) : Type 0 where
  pub edition : p.edition ≡ v.edition
  pub held : Held v p.lists
  pub old : p.old ≡ 4 + 8 * count_of bs
  pub parts : Parts bs v p.from p.to new
  -- the contents do not grow, or no body stands behind the new one
  pub apart : (v.count ≤ count_of bs) ⊎ (length bs ≤ p.to)

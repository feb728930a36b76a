-- The lists of a book's contents: what they hold of each body.
use Rattle.std.specs.Prelude.{List, ◌≡◌, ℕ, ◌≤◌, ◌<◌, length, get_or, set}
use Rattle.contents.specs.Contents.{count_of, kind_of, width_of, length_of, contents_number}
use Rattle.edit_numbers.specs.Volume.{skip}
pub use Rattle.edit_plans.specs.declared.Lists.{Lists}

-- a book with good contents, and bodies that it has
pub record Readable (bs : List ℕ) (n j : ℕ) : Type 0 where
  pub good : contents_number bs ≡ 0
  pub few : n ≤ 16
  pub own : (i : ℕ) → i < n → skip j i < count_of bs

-- the first n of the three lists without body j
pub record Upto (bs : List ℕ) (n j : ℕ) (ks ws ls : List ℕ) : Type 0 where
  pub kind : (i : ℕ) → i < n → get_or ks i 0 ≡ kind_of bs (skip j i)
  pub width : (i : ℕ) → i < n → get_or ws i 0 ≡ width_of bs (skip j i)
  pub size : (i : ℕ) → i < n → get_or ls i 0 ≡ length_of bs (skip j i)

pub record Reads (bs : List ℕ) (n j : ℕ) (l : Lists) : Type 0 where
  pub counted : l.count ≡ n
  pub listed : Upto bs n j l.kinds l.widths l.lengths
  pub long : (length l.kinds ≡ 16) × (length l.widths ≡ 16) × (length l.lengths ≡ 16)

-- a new body in the place of body j, and n bodies
pub record Put (l : Lists) (n j kind width size : ℕ) (r : Lists) : Type 0 where
  pub counted : r.count ≡ n
  pub kinds : r.kinds ≡ set l.kinds j kind
  pub widths : r.widths ≡ set l.widths j width
  pub lengths : r.lengths ≡ set l.lengths j size

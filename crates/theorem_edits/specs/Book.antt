-- A book of exactly these bodies.
use Rattle.std.specs.Prelude.{List, ◌≡◌, ℕ, ◌+◌, ◌<◌}
use Rattle.exact.specs.Refusal.{accepted}
use Rattle.contents.specs.Contents.{edition_of, count_of, kind_of, width_of}
use Rattle.book.specs.Book.{bytes_of, BookNumber}
use Rattle.edit_numbers.specs.Volume.{Volume}

-- bs is an accepted book, all or nothing, of exactly these bodies. "Afterwards the front of the area is an accepted book"
pub record BookOf (v : Volume) (bs : List ℕ) : Type 0 where
  pub number : BookNumber bs accepted
  pub edition : edition_of bs ≡ v.edition
  pub count : count_of bs ≡ v.count
  pub kind : (i : ℕ) → i < v.count → kind_of bs i ≡ v.kind i
  pub width : (i : ℕ) → i < v.count → width_of bs i ≡ v.width i
  pub body : (i : ℕ) → i < v.count → bytes_of bs i ≡ v.body i

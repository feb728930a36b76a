-- A book as its bodies, the bytes of a book from its bodies, and the bodies after an edit.
use Rattle.std.specs.Prelude.{cond, List, ℕ, suc, ◌-◌, eqb, ltb, length}
use Rattle.fields.specs.Listed.{listed}
use Rattle.contents.specs.Contents.{edition_of, count_of, kind_of, width_of}
use Rattle.book.specs.Book.{bytes_of}
use Rattle.theorem_round_trip.specs.Book.{laid_book}

-- how many bodies there are, and of body i its kind, width and bytes
pub record Volume : Type 0 where
  pub edition : ℕ
  pub count : ℕ
  pub kind : ℕ → ℕ
  pub width : ℕ → ℕ
  pub body : ℕ → List ℕ

-- as the bytes of a book state them
abbrev pub volume_of : List ℕ → Volume
volume_of bs = record { edition = edition_of bs; count = count_of bs; kind = kind_of bs; width = width_of bs; body = bytes_of bs }

-- "Contents and bodies close up": "Contents first, then bodies", "in order without gaps"
unfoldable pub closed_up : Volume → List ℕ
closed_up v =
    laid_book v.edition (listed v.count v.kind) (listed v.count v.width) (listed v.count (λ i. length (v.body i))) v.body

-- "remove body j, replace it, or add one at the end, a new body coming as kind, width and bytes"
pub data Edit : Type 0 where
  remove : ℕ → Edit
  replace : ℕ → ℕ → ℕ → List ℕ → Edit
  add : ℕ → ℕ → List ℕ → Edit

-- which body is body i once body j is gone
abbrev pub skip : ℕ → ℕ → ℕ
skip j i = cond (ltb i j) i (suc i)

-- a in the place of f j
abbrev pub swapped : {A : Type 0} → ℕ → A → (ℕ → A) → ℕ → A
swapped j a f i = cond (eqb i j) a (f i)

-- "the other bodies keep their bytes and order"
abbrev pub edited : Edit → Volume → Volume
edited (remove j) v = record {
  edition = v.edition;
  count = v.count - 1;
  kind = λ i. v.kind (skip j i);
  width = λ i. v.width (skip j i);
  body = λ i. v.body (skip j i);
}
edited (replace j kind width body) v = record {
  edition = v.edition;
  count = v.count;
  kind = swapped j kind v.kind;
  width = swapped j width v.width;
  body = swapped j body v.body;
}
edited (add kind width body) v = record {
  edition = v.edition;
  count = suc v.count;
  kind = swapped v.count kind v.kind;
  width = swapped v.count width v.width;
  body = swapped v.count body v.body;
}

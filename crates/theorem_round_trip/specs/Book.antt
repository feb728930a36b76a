-- A book put together: header and contents laid from an edition and three lists, and the bodies behind them.
use Rattle.std.specs.Prelude.{List, ◌++◌, ◌≡◌, ℕ, suc, ◌<◌, length, get_or}
use Rattle.exact.specs.Refusal.{accepted}
use Rattle.fields.specs.Bytes.{over}
use Rattle.contents_lay.specs.declared.Written.{Written}
use Rattle.contents.specs.Contents.{edition_of, count_of, kind_of, width_of, length_of, contents_number}
use Rattle.contents_lay.specs.Lay.{laid_start, laid_bytes, ContentsLaid}
use Rattle.body_fields.specs.Fields.{joined}
use Rattle.book.specs.Book.{bytes_of, BookNumber}
use Rattle.book_bodies.specs.Number.{circuit_body_number, record_body_number, TableNumber}

-- "Contents first, then bodies", "in order without gaps"
unfoldable pub laid_book : ℕ → List ℕ → List ℕ → List ℕ → (ℕ → List ℕ) → List ℕ
laid_book ed ks ws ls bodies = laid_bytes ed ks ws ls ++ joined (length ks) bodies

-- body j is as long as the lists say, and on its own it is not refused in a book of this edition. "kind (1 circuit, 2 table)"; "Body kind 3 in edition 2"
pub record Fits (ed : ℕ) (ks ws ls : List ℕ) (j : ℕ) (body : List ℕ) : Type 0 where
  pub long : length body ≡ get_or ls j 0
  pub circuit : get_or ks j 0 ≡ 1 → circuit_body_number ed (get_or ws j 0) body ≡ accepted
  pub table : get_or ks j 0 ≡ 2 → TableNumber (get_or ws j 0) body accepted
  pub recorded : get_or ks j 0 ≡ 3 → record_body_number (get_or ws j 0) body ≡ accepted

-- bs is a book that is not refused, of this edition, these lists and these bodies
pub record Holds (ed : ℕ) (ks ws ls : List ℕ) (bodies : ℕ → List ℕ) (bs : List ℕ) : Type 0 where
  pub edition : edition_of bs ≡ ed
  pub contents : contents_number bs ≡ accepted
  pub number : BookNumber bs accepted
  pub count : count_of bs ≡ length ks
  pub kind : (j : ℕ) → j < length ks → kind_of bs j ≡ get_or ks j 0
  pub width : (j : ℕ) → j < length ks → width_of bs j ≡ get_or ws j 0
  pub long : (j : ℕ) → j < length ks → length_of bs j ≡ get_or ls j 0
  pub body : (j : ℕ) → j < length ks → bytes_of bs j ≡ bodies j

-- an area xs in which header and contents were laid and then each body put in its place: areas n is what it is with n bodies put
pub record PutTogether (xs : List ℕ) (ed : ℕ) (ks ws ls : List ℕ) (bodies areas : ℕ → List ℕ) (r : Written) : Type 0 where
  pub laid : ContentsLaid xs ed ks ws ls r (areas 0)
  pub unrefused : r.refusal ≡ accepted
  pub put : (j : ℕ) → j < length ks → areas (suc j) ≡ over (areas j) (laid_start ls j) (bodies j)

-- From the lines of all bodies to a listing, and from a number to its single line: for the default and for the strict reading.
use mathlib.Core.List.{List, ◌++◌}
use mathlib.Core.Logic.{◌≢◌}
use mathlib.Core.Path.{◌≡◌, refl, ap, ◌∙◌}
use Prim.Native.Nat.{ℕ, ◌<◌}
use Rattle.contents.specs.Contents.{count_of, contents_number}
use Rattle.lines_words.specs.Inner.Writer.{Lays}
use Rattle.lines_words.specs.declared.Text.{Text}
use Rattle.lines_words.proofs.Laws.Writer.{lays-front}
use Rattle.lines.specs.Lines.{book_line, refused_line}
use Rattle.book.specs.Book.{BookNumber}
use Rattle.book_bodies.specs.Answer.{refusal}
use Rattle.book.proofs.Laws.Number.{contents-good}
use Rattle.book.proofs.Laws.Read.{reads-refused}
use Rattle.listing.specs.Listing.{body_lines, Listed, ListedStrict}
use Rattle.listing.specs.Inner.Bodies.{BodiesListed}
use Rattle.listing.proofs.Laws.Short.{listed-short, refused-short}

module _ (bs xs ys : List ℕ) (r : ℕ) (t u : Text) (begun : (t.area.now ≡ xs) × (t.at ≡ 0)) (left : ys ≡ u.area.now) (place : r ≡ u.at) where
  -- a line for each body
  pub listed : contents_number bs ≡ 0 → BodiesListed bs t u → Listed bs xs ys r
  listed z B = record {
    text = book_line (count_of bs) ++ body_lines (count_of bs) B.bodies;
    listing = record { bodies = B.bodies; read = B.read; refused = λ ne. absurd (ne z); listed = λ y. refl };
    laid = lays-front begun left place B.lays;
    short = listed-short bs z B.bodies B.read;
  }

  -- header or contents are refused
  pub single : (k : ℕ) → k < 256 → k ≡ contents_number bs → k ≢ 0 → Lays t (refused_line k) u → Listed bs xs ys r
  single k h e ne l = record {
    text = refused_line k;
    listing = record {
      bodies = λ j. refusal k;
      read = λ j _. reads-refused bs j (refusal k) k e ne refl;
      refused = λ _. ap refused_line e;
      listed = λ z. absurd (ne (e ∙ z));
    };
    laid = lays-front begun left place l;
    short = refused-short k h;
  }

  module _ (k : ℕ) (T : BookNumber bs k) where
    -- all bodies are good
    pub listed-strict : k ≡ 0 → BodiesListed bs t u → ListedStrict bs xs ys r
    listed-strict z B =
        let L = listed (contents-good bs k T z) B in record {
          text = L.text;
          listing = record { number = k; tested = T; refused = λ ne. absurd (ne z); listed = λ y. L.listing };
          laid = L.laid;
          short = L.short;
        }

    -- the book is refused
    pub single-strict : k < 256 → k ≢ 0 → Lays t (refused_line k) u → ListedStrict bs xs ys r
    single-strict h ne l = record {
      text = refused_line k;
      listing = record { number = k; tested = T; refused = λ _. refl; listed = λ z. absurd (ne z) };
      laid = lays-front begun left place l;
      short = refused-short k h;
    }

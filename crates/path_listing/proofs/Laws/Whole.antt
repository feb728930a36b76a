-- From the lines of all tables to a listing of paths, and from a number to its single line.
use mathlib.Core.List.{List}
use mathlib.Core.Logic.{◌≢◌}
use mathlib.Core.Path.{◌≡◌, refl, sym, subst}
use Prim.Native.Nat.{ℕ, ◌≤◌, ◌<◌}
use lib.ListN.{length}
use Rattle.lines_words.specs.Inner.Writer.{Lays}
use Rattle.lines_words.specs.declared.Text.{Text}
use Rattle.lines_words.proofs.Laws.Writer.{lays-front}
use Rattle.lines.specs.Lines.{refused_line}
use Rattle.book.specs.Book.{BookNumber}
use Rattle.book.proofs.Laws.Number.{contents-good}
use Rattle.path_listing.specs.Listing.{PathsListed}
use Rattle.path_listing.specs.Inner.Tables.{TablesListed}
use Rattle.path_listing.proofs.Laws.Short.{listed-short, refused-short}

module _ (bs xs ys : List ℕ) (r : ℕ) (t u : Text) (begun : (t.area.now ≡ xs) × (t.at ≡ 0)) (left : ys ≡ u.area.now) (place : r ≡ u.at) (k : ℕ) (T : BookNumber bs k) where
  -- all bodies are good
  pub listed : k ≡ 0 → TablesListed bs t u → PathsListed bs xs ys r
  listed z B = record {
    text = B.text;
    listing = record { number = k; tested = T; refused = λ ne. absurd (ne z); listed = λ _. B.tables };
    laid = lays-front begun left place B.lays;
    short =
        let w = B.tables in
        subst (λ (x : List ℕ). length x ≤ 888) (sym w.listed) (listed-short bs (contents-good bs k T z) w.bodies w.read w.halves w.answers);
  }

  -- the book is refused
  pub single : k < 256 → k ≢ 0 → Lays t (refused_line k) u → PathsListed bs xs ys r
  single h ne l = record {
    text = refused_line k;
    listing = record { number = k; tested = T; refused = λ _. refl; listed = λ z. absurd (ne z) };
    laid = lays-front begun left place l;
    short = refused-short k h;
  }

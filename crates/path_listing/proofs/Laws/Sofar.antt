-- The listing of a book's paths grows by a line for each table: what is written so far, from the first line to the whole text. By the laws of writers one after the other.
use mathlib.Core.Bool.{cond}
use mathlib.Core.List.{List, [], ◌++◌}
use mathlib.Core.Logic.{⊎_elim}
use mathlib.Core.Path.{◌≡◌, refl, sym, ap, ap₂, ◌∙◌, subst}
use Prim.Native.Nat.{ℕ, zero, suc, ◌+◌, ◌≤◌, ◌<◌}
use native.Mathlib.Omega.{arith}
use native.Mathlib.Numerals.{add-one}
use borrow.Author.Tests.{eq-eqb, ne_eqb}
use lib.Dec.{eqb}
use lib.ListN.{length}
use Rattle.exact.proofs.Laws.Sum.{split}
use Rattle.exact.specs.declared.Answer.TheVariants as answer
use Rattle.contents.specs.Contents.{count_of}
use Rattle.lines_words.specs.Overlay.{top}
use Rattle.lines_words.specs.Inner.Writer.{Lays}
use Rattle.lines_words.specs.declared.Text.{Text}
use Rattle.lines.specs.Lines.{book_line}
use Rattle.lines_words.proofs.Laws.Writer.{lays_none, lays_more, lays-text, lays-within}
use Rattle.book_bodies.specs.declared.Said.{Said}
use Rattle.book_bodies.specs.declared.Said.TheVariants.{Refused, Circuit, Record, Whole}
use Rattle.book_bodies.specs.declared.Body.{Body}
use Rattle.book.specs.Read.{ReadsBody}
use Rattle.book_bodies.specs.Answer.{refusal}
use Rattle.std.specs.Prelude.{Err}
use Rattle.exact.specs.declared.Refusal.TheVariants.{NotNormal}
use Rattle.path_listing.specs.Listing.{Halves, Answers, body_text, table_lines, Tables}
use Rattle.path_listing.specs.Inner.Tables.{BodyLined, TablesListed}

-- ---- a body that has no line
pub no_halves : Halves
no_halves = record { paths = Err NotNormal; summed = answer.Refused 0 }

-- 1 for a table
abbrev pub lined : Said → ℕ
lined (Refused k) = 0
lined (Circuit a) = 0
lined (Record c) = 0
lined Whole = 1

silent-text : (j : ℕ) (s : Said) → lined s ≡ 0 → body_text j s no_halves ≡ []
unfolding body_text
silent-text j (Refused k) e = refl
silent-text j (Circuit a) e = refl
silent-text j (Record c) e = refl
silent-text j Whole e = absurd (omega (arith, e))

pub silent : (t : Text) (j : ℕ) (b : Body) → lined b.said ≡ 0 → BodyLined t j b t
silent t j b e = record {
  halves = no_halves;
  answers = λ w. let q : lined b.said ≡ 1 = ap lined w in absurd (omega (arith, e, q));
  lays = λ l. lays-text (sym (silent-text j b.said e)) (lays_none t l);
}

-- ---- what is read of a body, with its halves
pub record Row : Type 0 where
  pub body : Body
  pub halves : Halves

pub record Rowed (bs : List ℕ) (j : ℕ) (r : Row) : Type 0 where
  pub read : ReadsBody bs j r.body
  pub answers : r.body.said ≡ Whole → Answers r.body.table r.halves

-- the lines of the first n
pub row_lines : ℕ → (ℕ → Row) → List ℕ
row_lines n f = table_lines n (λ i. (f i).body) (λ i. (f i).halves)

-- the writer t laid the lines of the first j bodies, and is now u
pub record Sofar (bs : List ℕ) (t : Text) (j : ℕ) (u : Text) : Type 0 where
  pub rows : ℕ → Row
  pub each : (i : ℕ) → i < j → Rowed bs i (rows i)
  pub lays : Lays t (row_lines j rows) u

-- the lines hang on the first n rows alone
pub lines_same : (n : ℕ) (f g : ℕ → Body) (p q : ℕ → Halves) → ((i : ℕ) → i < n → body_text i (f i).said (p i) ≡ body_text i (g i).said (q i)) → table_lines n f p ≡ table_lines n g q
unfolding table_lines
lines_same zero f g p q h = refl
lines_same (suc n) f g p q h = ap₂ (λ (a b : List ℕ). a ++ b) (lines_same n f g p q (λ i l. h i (omega (arith, l)))) (h n (omega arith))

-- f with b at j
with : (ℕ → Row) → ℕ → Row → ℕ → Row
with f j b i = cond (eqb i j) b (f i)

with-here : (f : ℕ → Row) (j : ℕ) (b : Row) → with f j b j ≡ b
unfolding with
with-here f j b = rw (eq-eqb j j refl)

with-else : (f : ℕ → Row) (j : ℕ) (b : Row) (i : ℕ) → i < j → with f j b i ≡ f i
unfolding with
with-else f j b i h = rw (ne_eqb i j (λ e. omega (arith, h, e)))

-- what a row has as text
row_text : ℕ → Row → List ℕ
row_text j r = body_text j r.body.said r.halves

module _ (bs : List ℕ) (t : Text) where
  pub begun : t.at ≤ top → Sofar bs t 0 t
  unfolding table_lines row_lines
  begun h = record {
    rows = λ i. record { body = refusal 0; halves = no_halves };
    each = λ i h. absurd (omega (arith, h));
    lays = lays_none t h;
  }

  module _ (j : ℕ) (short : length t.area.now ≤ top) (u v : Text) (r : Row) (S : Sofar bs t j u) where
    f : ℕ → Row
    f = with S.rows j r

    text : row_lines (j + 1) f ≡ row_lines j S.rows ++ row_text j r
    unfolding f table_lines row_lines row_text
    text =
        ap (λ (n : ℕ). row_lines n f) (add-one j)
        ∙ ap₂ (λ (a c : List ℕ). a ++ c) (lines_same j (λ i. (f i).body) (λ i. (S.rows i).body) (λ i. (f i).halves) (λ i. (S.rows i).halves) (λ i l. ap (row_text i) (with-else S.rows j r i l)))
        (ap (row_text j) (with-here S.rows j r))

    at_j : Rowed bs j r → (i : ℕ) → j ≡ i → Rowed bs i (f i)
    unfolding f
    at_j w i e = subst (λ (i : ℕ). Rowed bs i (f i)) e (subst (Rowed bs j) (sym (with-here S.rows j r)) w)

    below-j : (i : ℕ) → i < j → Rowed bs i (f i)
    unfolding f
    below-j i h = subst (Rowed bs i) (sym (with-else S.rows j r i h)) (S.each i h)

    grown-row : Rowed bs j r → Lays u (row_text j r) v → Sofar bs t (j + 1) v
    grown-row w l = record {
      rows = f;
      each = λ i h. ⊎_elim (λ (s : i < j). below-j i s) (λ (s : j ≤ i). at_j w i (omega (arith, s, h))) (split i j);
      lays = lays-text (sym text) (lays_more short S.lays l);
    }

  -- a body more is read and its line written
  pub grown : (j : ℕ) → length t.area.now ≤ top → (u v : Text) (b : Body) → Sofar bs t j u → ReadsBody bs j b → BodyLined u j b v → Sofar bs t (j + 1) v
  unfolding row_text
  grown j short u v b S r L =
      grown-row j short u v (record { body = b; halves = L.halves }) S (record { read = r; answers = L.answers }) (L.lays (lays-within S.lays))

  -- behind the first line, all bodies are written
  pub whole : (j : ℕ) (u v : Text) → length t.area.now ≤ top → j ≡ count_of bs → Lays t (book_line (count_of bs)) u → Sofar bs u j v → TablesListed bs t v
  unfolding row_lines
  whole j u v short e l S = record {
    text = book_line (count_of bs) ++ row_lines (count_of bs) S.rows;
    tables = record {
      bodies = λ i. (S.rows i).body;
      read = λ i h. (S.each i (omega (arith, h, e))).read;
      halves = λ i. (S.rows i).halves;
      answers = λ i h. (S.each i (omega (arith, h, e))).answers;
      listed = refl;
    };
    lays = lays_more short l (lays-text (ap (λ (n : ℕ). row_lines n S.rows) e) S.lays);
  }

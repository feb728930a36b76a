-- The listing of a book grows by a line for each body: what is written so far, from the first line to the whole text. By the laws of writers one after the other.
use mathlib.Core.Bool.{cond}
use mathlib.Core.List.{List, ◌++◌}
use mathlib.Core.Logic.{⊎_elim}
use mathlib.Core.Path.{◌≡◌, refl, sym, ap, ap₂, ◌∙◌, subst}
use Prim.Native.Nat.{ℕ, zero, suc, ◌+◌, ◌≤◌, ◌<◌}
use native.Mathlib.Omega.{arith}
use native.Mathlib.Numerals.{add-one}
use borrow.Author.Tests.{eq-eqb, ne_eqb}
use lib.Dec.{eqb}
use lib.ListN.{length}
use Rattle.exact.proofs.Laws.Sum.{split}
use Rattle.contents.specs.Contents.{count_of, contents_number}
use Rattle.lines_words.specs.Overlay.{top}
use Rattle.lines_words.specs.Inner.Writer.{Lays}
use Rattle.lines_words.specs.declared.Text.{Text}
use Rattle.lines.specs.Lines.{book_line}
use Rattle.lines_words.proofs.Laws.Laid.{laid-length}
use Rattle.lines_words.proofs.Laws.Writer.{lays_none, lays_more, lays-text}
use Rattle.book_bodies.specs.declared.Body.{Body}
use Rattle.book.specs.Read.{ReadsBody}
use Rattle.book_bodies.specs.Answer.{refusal}
use Rattle.contents.proofs.Laws.Good.{good}
use Rattle.listing_line.specs.Line.{body_line}
use Rattle.listing.specs.Listing.{body_lines}
use Rattle.listing.specs.Inner.Bodies.{BodiesListed}

-- a book with good contents has at most 16 bodies
pub few : (bs : List ℕ) (n : ℕ) → contents_number bs ≡ 0 → n ≡ count_of bs → n ≤ 16
few bs n z e = omega (arith, e, (good bs z).count)

-- a writer leaves the area as short as it was
pub narrow : {t u : Text} {text : List ℕ} → Lays t text u → length t.area.now ≤ top → length u.area.now ≤ top
narrow l h = omega (arith, laid-length l.laid, h)

-- the writer t laid the lines of the first j bodies, and is now u
pub record Sofar (bs : List ℕ) (t : Text) (j : ℕ) (u : Text) : Type 0 where
  pub bodies : ℕ → Body
  pub read : (i : ℕ) → i < j → ReadsBody bs i (bodies i)
  pub lays : Lays t (body_lines j bodies) u

-- the lines hang on the first n bodies alone
pub lines_same : (n : ℕ) (f g : ℕ → Body) → ((i : ℕ) → i < n → f i ≡ g i) → body_lines n f ≡ body_lines n g
unfolding body_lines
lines_same zero f g h = refl
lines_same (suc n) f g h =
    ap₂ (λ (a b : List ℕ). a ++ b) (lines_same n f g (λ i l. h i (omega (arith, l)))) (ap (λ (b : Body). body_line n b.said b.table) (h n (omega arith)))

-- f with b at j
with : (ℕ → Body) → ℕ → Body → ℕ → Body
with f j b i = cond (eqb i j) b (f i)

with-here : (f : ℕ → Body) (j : ℕ) (b : Body) → with f j b j ≡ b
unfolding with
with-here f j b = rw (eq-eqb j j refl)

with-else : (f : ℕ → Body) (j : ℕ) (b : Body) (i : ℕ) → i < j → with f j b i ≡ f i
unfolding with
with-else f j b i h = rw (ne_eqb i j (λ e. omega (arith, h, e)))

module _ (bs : List ℕ) (t : Text) where
  pub begun : t.at ≤ top → Sofar bs t 0 t
  unfolding body_lines
  begun h = record {
    bodies = λ i. refusal 0;
    read = λ i h. absurd (omega (arith, h));
    lays = lays_none t h;
  }

  module _ (j : ℕ) (short : length t.area.now ≤ top) (u v : Text) (b : Body) (S : Sofar bs t j u) where
    f : ℕ → Body
    f = with S.bodies j b

    text : body_lines (j + 1) f ≡ body_lines j S.bodies ++ body_line j b.said b.table
    unfolding f body_lines
    text =
        ap (λ (n : ℕ). body_lines n f) (add-one j)
        ∙ ap₂ (λ (a c : List ℕ). a ++ c) (lines_same j f S.bodies (with-else S.bodies j b))
        (ap (λ (b : Body). body_line j b.said b.table) (with-here S.bodies j b))

    at_j : ReadsBody bs j b → (i : ℕ) → j ≡ i → ReadsBody bs i (f i)
    unfolding f
    at_j r i e = subst (λ (i : ℕ). ReadsBody bs i (f i)) e (subst (ReadsBody bs j) (sym (with-here S.bodies j b)) r)

    below-j : (i : ℕ) → i < j → ReadsBody bs i (f i)
    unfolding f
    below-j i h = subst (ReadsBody bs i) (sym (with-else S.bodies j b i h)) (S.read i h)

    pub grown : ReadsBody bs j b → Lays u (body_line j b.said b.table) v → Sofar bs t (j + 1) v
    grown r l = record {
      bodies = f;
      read = λ i h. ⊎_elim (λ (s : i < j). below-j i s) (λ (s : j ≤ i). at_j r i (omega (arith, s, h))) (split i j);
      lays = lays-text (sym text) (lays_more short S.lays l);
    }

  -- behind the first line, all bodies are written
  pub whole : (j : ℕ) (u v : Text) → length t.area.now ≤ top → j ≡ count_of bs → Lays t (book_line (count_of bs)) u → Sofar bs u j v → BodiesListed bs t v
  whole j u v short e l S = record {
    bodies = S.bodies;
    read = λ i h. S.read i (omega (arith, h, e));
    lays = lays_more short l (lays-text (ap (λ (n : ℕ). body_lines n S.bodies) e) S.lays);
  }

-- No second listing of paths: of the text, and of what stands in the area and is answered. By the same of the book's number, of each body and of both engines.
use mathlib.Core.List.{List, ◌++◌}
use mathlib.Core.Logic.{◌≢◌, ⊎_elim}
use mathlib.Core.Path.{◌≡◌, refl, sym, ap, ap₂, subst, ◌∙◌}
use Prim.Native.Nat.{ℕ}
use Rattle.std.specs.Prelude.{Result}
use Rattle.exact.specs.declared.Refusal.{Refusal}
use Rattle.exact.specs.declared.Answer.{Answer}
use Rattle.bits.proofs.Laws.Bit.{same_or}
use Rattle.contents.specs.Contents.{count_of}
use Rattle.lines.specs.Lines.{book_line, refused_line}
use Rattle.lines_words.proofs.Laws.Laid.{laid-text}
use Rattle.lines_words.proofs.Laws.Only.{one-overlay}
use Rattle.book_bodies.specs.declared.Said.{Said}
use Rattle.book_bodies.specs.declared.Said.TheVariants.{Refused, Circuit, Record, Whole}
use Rattle.book_bodies.specs.declared.Body.{Body}
use Rattle.book.proofs.Laws.Only.{one_number, one-body}
use Rattle.path_sum.specs.declared.PathSum.{PathSum}
use Rattle.path_lines.specs.Lines.{path_line}
use Rattle.theorem_paths.proofs.Laws.Only.{one-paths, one-away}
use Rattle.path_listing.specs.Listing.{Halves, Answers, numbered, body_text, table_lines, Tables, PathListing, PathsListed}
use Rattle.path_listing.proofs.Laws.Sofar.{lines_same}

-- of one body, one line
one_line : (j : ℕ) (b : Body) (s : Said) → b.said ≡ s → (g h : Halves) → (b.said ≡ Whole → Answers b.table g) → (b.said ≡ Whole → Answers b.table h) → body_text j s g ≡ body_text j s h
unfolding body_text
one_line j b (Refused k) e g h A B = refl
one_line j b (Circuit a) e g h A B = refl
one_line j b (Record c) e g h A B = refl
one_line j b Whole e g h A B =
    ap₂ (λ (r : Result PathSum Refusal) (a : Answer). path_line j (numbered r) a) (one-paths b.table g.paths h.paths (A e).paths (B e).paths) (one-away b.table g.summed h.summed (A e).summed (B e).summed)

pub one-tables : (bs text more : List ℕ) → Tables bs text → Tables bs more → text ≡ more
one-tables bs text more L M =
    L.listed
    ∙ ap (λ (l : List ℕ). book_line (count_of bs) ++ l)
    (lines_same (count_of bs) L.bodies M.bodies L.halves M.halves
    (λ j h.
    let e : L.bodies j ≡ M.bodies j = one-body bs j (L.bodies j) (M.bodies j) (L.read j h) (M.read j h) in
    one_line j (L.bodies j) (L.bodies j).said refl (L.halves j) (M.halves j) (L.answers j h) (subst (λ (b : Body). b.said ≡ Whole → Answers b.table (M.halves j)) (sym e) (M.answers j h))
    ∙ ap (λ (b : Body). body_text j b.said (M.halves j)) e))
    ∙ sym M.listed

pub one-path-text : (bs text more : List ℕ) → PathListing bs text → PathListing bs more → text ≡ more
one-path-text bs text more L M =
    let same = one_number bs L.number M.number L.tested M.tested in
    ⊎_elim
    (λ (z : L.number ≡ 0). one-tables bs text more (L.listed z) (M.listed (sym same ∙ z)))
    (λ (ne : L.number ≢ 0). L.refused ne ∙ ap refused_line same ∙ sym (M.refused (λ z. ne (same ∙ z))))
    (same_or L.number 0)

pub one-path-listing : (bs xs ys zs : List ℕ) (p q : ℕ) → PathsListed bs xs ys p → PathsListed bs xs zs q → (ys ≡ zs) × (p ≡ q)
one-path-listing bs xs ys zs p q L M =
    one-overlay (laid-text (one-path-text bs L.text M.text L.listing M.listing) L.laid) M.laid

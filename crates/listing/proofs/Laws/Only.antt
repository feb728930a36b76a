-- No second listing: of the text, and of what stands in the area and is answered. By the same of the book's number and of each body.
use mathlib.Core.List.{List, ◌++◌}
use mathlib.Core.Logic.{◌≢◌, ⊎_elim}
use mathlib.Core.Path.{◌≡◌, sym, ap, ◌∙◌}
use Prim.Native.Nat.{ℕ}
use Rattle.bits.proofs.Laws.Bit.{same_or}
use Rattle.contents.specs.Contents.{count_of, contents_number}
use Rattle.lines.specs.Lines.{book_line, refused_line}
use Rattle.lines_words.proofs.Laws.Laid.{laid-text}
use Rattle.lines_words.proofs.Laws.Only.{one-overlay}
use Rattle.book.proofs.Laws.Only.{one_number, one-body}
use Rattle.listing.specs.Listing.{body_lines, Listing, StrictListing, Listed, ListedStrict}
use Rattle.listing.proofs.Laws.Sofar.{lines_same}

-- ---- the default
module _ (bs text more : List ℕ) (L : Listing bs text) (M : Listing bs more) where
  bodies : body_lines (count_of bs) L.bodies ≡ body_lines (count_of bs) M.bodies
  bodies = lines_same (count_of bs) L.bodies M.bodies (λ j h. one-body bs j (L.bodies j) (M.bodies j) (L.read j h) (M.read j h))

  pub one-text : text ≡ more
  one-text =
      ⊎_elim
      (λ (z : contents_number bs ≡ 0). L.listed z ∙ ap (λ (l : List ℕ). book_line (count_of bs) ++ l) bodies ∙ sym (M.listed z))
      (λ (ne : contents_number bs ≢ 0). L.refused ne ∙ sym (M.refused ne))
      (same_or (contents_number bs) 0)

pub one-listing : (bs xs ys zs : List ℕ) (p q : ℕ) → Listed bs xs ys p → Listed bs xs zs q → (ys ≡ zs) × (p ≡ q)
one-listing bs xs ys zs p q L M =
    one-overlay (laid-text (one-text bs L.text M.text L.listing M.listing) L.laid) M.laid

-- ---- the strict reading
pub one-strict-text : (bs text more : List ℕ) → StrictListing bs text → StrictListing bs more → text ≡ more
one-strict-text bs text more L M =
    let same = one_number bs L.number M.number L.tested M.tested in
    ⊎_elim
    (λ (z : L.number ≡ 0). one-text bs text more (L.listed z) (M.listed (sym same ∙ z)))
    (λ (ne : L.number ≢ 0). L.refused ne ∙ ap refused_line same ∙ sym (M.refused (λ z. ne (same ∙ z))))
    (same_or L.number 0)

pub one-strict-listing : (bs xs ys zs : List ℕ) (p q : ℕ) → ListedStrict bs xs ys p → ListedStrict bs xs zs q → (ys ≡ zs) × (p ≡ q)
one-strict-listing bs xs ys zs p q L M =
    one-overlay (laid-text (one-strict-text bs L.text M.text L.listing M.listing) L.laid) M.laid

-- The number of the first fault of header and contents is that of the book's contents, and where it is 0 there is none.
use mathlib.Core.Bool.{Bool, true, false, cond, not, ◌||◌}
use mathlib.Core.List.{List, [], ◌∷◌}
use mathlib.Core.Logic.{◌≢◌}
use mathlib.Core.Path.{◌≡◌, refl, sym, ap, ap₂, ◌∙◌}
use Prim.Native.Nat.{ℕ, zero, suc, ◌+◌, ◌*◌}
use native.Mathlib.Omega.{arith}
use lib.Dec.{eqb, ltb}
use lib.ListN.{length}
use Rattle.fields.specs.Bytes.{byte_at}
use Rattle.editions.specs.Edition.{good_edition}
use Rattle.contents.specs.declared.Entry.{Entry}
use Rattle.contents.specs.Contents.{edition_of, count_of, entry_of, body_start, good_kind, any_below, header_fault, fault_at, entry_fault, contents_fault, contents_number}
use Rattle.cause.specs.declared.Cause.TheVariants.{Short, Long, Letters, Edition, Count, Contents, Kind, Start, End, LastEnd}
use Rattle.cause.specs.Cause.{Finding, number_of, found, found_number, ◌finds◌, first_found, first_below, in_order}
use Rattle.cause.proofs.Laws.First.{order-number, order-last, first-number, last-number, else-number}
use Rattle.cause_contents.specs.Contents.{header_found, entry_found, short_found, end_found, entry_at, contents_found}

-- ---- the number of the header and of an entry
header-tests : (a b c d e f : Bool) (i : ℕ) → found_number (first_found (a finds found Short 0 0 ∷ b finds found Long 0 i ∷ c finds found Letters 0 0 ∷ d finds found Letters 0 1 ∷ e finds found Edition 0 2 ∷ f finds found Count 0 3 ∷ []))
    ≡ cond (a || b || c || d || e || f) 9 0
unfolding first_found number_of
header-tests true b c d e f i = refl
header-tests false true c d e f i = refl
header-tests false false true d e f i = refl
header-tests false false false true e f i = refl
header-tests false false false false true f i = refl
header-tests false false false false false true i = refl
header-tests false false false false false false i = refl

pub header-number : (bs : List ℕ) → found_number (header_found bs) ≡ cond (header_fault bs) 9 0
unfolding header_found header_fault
header-number bs = header-tests (ltb (length bs) 4) (ltb 60000 (length bs)) (not (eqb (byte_at bs 0) 0x51)) (not (eqb (byte_at bs 1) 0x4E)) (not (good_edition (edition_of bs))) (ltb 16 (count_of bs)) 60000

entry-tests : (a b c : Bool) (j x y z : ℕ) → found_number (first_found (a finds found Kind j x ∷ b finds found Start j y ∷ c finds found End j z ∷ [])) ≡ cond (a || b || c) 10 0
unfolding first_found number_of
entry-tests true b c j x y z = refl
entry-tests false true c j x y z = refl
entry-tests false false true j x y z = refl
entry-tests false false false j x y z = refl

pub entry-number : (ed : ℕ) (e : Entry) (j from size : ℕ) → found_number (entry_found ed e j from size) ≡ cond (fault_at ed e from size) 10 0
unfolding entry_found fault_at
entry-number ed e j from size = entry-tests (not (good_kind ed e.kind)) (not (eqb e.start from)) (ltb size (e.start + e.length)) j (4 + 8 * j) (8 + 8 * j) (6 + 8 * j)

-- a number 0 says that the test is false
pub is_none : (b : Bool) (n : ℕ) → n ≢ 0 → cond b n 0 ≡ 0 → b ≡ false
is_none true n ne z = absurd (ne z)
is_none false n ne z = refl

pub header-good : (bs : List ℕ) → found_number (header_found bs) ≡ 0 → header_fault bs ≡ false
header-good bs z = is_none (header_fault bs) 9 (λ e. omega arith) (sym (header-number bs) ∙ z)

pub entry-good : (ed : ℕ) (e : Entry) (j from size : ℕ) → found_number (entry_found ed e j from size) ≡ 0 → fault_at ed e from size ≡ false
entry-good ed e j from size z = is_none (fault_at ed e from size) 10 (λ q. omega arith) (sym (entry-number ed e j from size) ∙ z)

-- ---- the number of the contents
below-number : (bs : List ℕ) (n : ℕ) → found_number (first_below n (entry_at bs)) ≡ cond (any_below n (entry_fault bs)) 10 0
unfolding first_below any_below number_of
below-number bs zero = refl
below-number bs (suc n) = else-number (first_below n (entry_at bs)) (entry_at bs n) ∙ go (any_below n (entry_fault bs)) (entry_fault bs n) (below-number bs n) (entry-number (edition_of bs) (entry_of bs n) n (body_start bs n) (length bs))
  where
    go : (a b : Bool) {x y : ℕ} → x ≡ cond a 10 0 → y ≡ cond b 10 0 → cond (eqb x 0) y x ≡ cond (a || b) 10 0
    go true b {x} {y} p q = ap (λ (k : ℕ). cond (eqb k 0) y k) p
    go false b {x} {y} p q = ap (λ (k : ℕ). cond (eqb k 0) y k) p ∙ q

short-number : (bs : List ℕ) → found_number (short_found bs) ≡ cond (ltb (length bs) (4 + 8 * count_of bs)) 10 0
unfolding short_found number_of
short-number bs = first-number (ltb (length bs) (4 + 8 * count_of bs)) (found Contents 0 (length bs)) [] ∙ ap (cond (ltb (length bs) (4 + 8 * count_of bs)) 10) last-number

end-number : (bs : List ℕ) → found_number (end_found bs) ≡ cond (not (eqb (body_start bs (count_of bs)) (length bs))) 10 0
unfolding end_found number_of
end-number bs =
    let t = not (eqb (body_start bs (count_of bs)) (length bs)) in
    first-number t (found LastEnd 0 (body_start bs (count_of bs))) [] ∙ ap (cond t 10) last-number

-- "9, contents in order": the number of the first fault is the contents' number
pub contents-number : (bs : List ℕ) → found_number (contents_found bs) ≡ contents_number bs
unfolding contents_found contents_number contents_fault
contents-number bs = go (header_fault bs) (ltb (length bs) (4 + 8 * count_of bs)) (any_below (count_of bs) (entry_fault bs)) (not (eqb (body_start bs (count_of bs)) (length bs)))
    (header_found bs) (short_found bs) (first_below (count_of bs) (entry_at bs)) (end_found bs)
    (header-number bs) (short-number bs) (below-number bs (count_of bs)) (end-number bs)
  where
    both : (x y : ℕ) {p q : ℕ} → p ≡ x → q ≡ y → cond (eqb p 0) q p ≡ cond (eqb x 0) y x
    both x y e f = ap₂ (λ (p q : ℕ). cond (eqb p 0) q p) e f

    all : (a b c d : Bool)
        → ◌≡◌ {A = ℕ} (cond (eqb (cond a 9 0) 0) (cond (eqb (cond b 10 0) 0) (cond (eqb (cond c 10 0) 0) (cond (eqb (cond d 10 0) 0) 0 (cond d 10 0)) (cond c 10 0)) (cond b 10 0)) (cond a 9 0)) (cond a 9 (cond (b || c || d) 10 0))
    all true b c d = refl
    all false true c d = refl
    all false false true d = refl
    all false false false true = refl
    all false false false false = refl

    go : (a b c d : Bool) (f g h i : Finding) → found_number f ≡ cond a 9 0 → found_number g ≡ cond b 10 0 → found_number h ≡ cond c 10 0 → found_number i ≡ cond d 10 0 → found_number (in_order (f ∷ g ∷ h ∷ i ∷ [])) ≡ cond a 9 (cond (b || c || d) 10 0)
    go a b c d f g h i p q r s =
        order-number f (g ∷ h ∷ i ∷ []) ∙ both (cond a 9 0) _ p (order-number g (h ∷ i ∷ []) ∙ both (cond b 10 0) _ q (order-number h (i ∷ []) ∙ both (cond c 10 0) _ r (order-number i [] ∙ both (cond d 10 0) 0 s order-last))) ∙ all a b c d

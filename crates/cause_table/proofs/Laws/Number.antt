-- The number of the first fault of a table's body is the body's: 11 exactly where its fields are at fault.
use mathlib.Core.Bool.{Bool, true, false, cond, not, ◌||◌}
use mathlib.Core.List.{List, [], ◌∷◌}
use mathlib.Core.Path.{◌≡◌, refl, ap, ◌∙◌}
use Prim.Native.Nat.{ℕ, zero, suc, ◌+◌, ◌*◌, ◌^◌}
use lib.Dec.{eqb, ltb, leb}
use lib.ListN.{length}
use Rattle.state.specs.Number.{outside}
use Rattle.contents.specs.Contents.{any_below}
use Rattle.body_bytes.specs.Body.{mark_of, phase_of, power_of, tie_count, mask_of, side_of, size_fault, head_fault, turn_fault, row_fault, tie_fault, body_fault}
use Rattle.cause.specs.declared.Cause.TheVariants.{TableWidth, Length, ManyTies, ZeroMark, Phase, PowerOut, Turn, Row, Mask, Side}
use Rattle.cause.specs.Cause.{Finding, number_of, found, found_number, ◌finds◌, first_found, first_below, in_order}
use Rattle.cause.proofs.Laws.First.{else-number, order-number, order-last}
use Rattle.cause_table.specs.Table.{size_found, head_found, turn_found, row_found, tie_found, body_found}

-- ---- each test
size-tests : (a b c d : Bool) (w x y : ℕ) → found_number (first_found (a finds found TableWidth 0 w ∷ b finds found Length 0 x ∷ c finds found ManyTies 0 y ∷ d finds found Length 0 x ∷ [])) ≡ cond (a || b || c || d) 11 0
unfolding first_found number_of
size-tests true b c d w x y = refl
size-tests false true c d w x y = refl
size-tests false false true d w x y = refl
size-tests false false false true w x y = refl
size-tests false false false false w x y = refl

pub size_number : (from wat n : ℕ) (bs : List ℕ) → found_number (size_found from wat n bs) ≡ cond (size_fault n bs) 11 0
unfolding size_found size_fault
size_number from wat n bs = size-tests (ltb 64 n) (ltb (length bs) (5 + 9 * n)) (ltb n (tie_count n bs)) (not (eqb (length bs) (5 + 9 * n + 9 * tie_count n bs))) wat (from + length bs) (from + (4 + 9 * n))

head-tests : (a b c : Bool) (x y z : ℕ) → found_number (first_found (a finds found ZeroMark 0 x ∷ b finds found Phase 0 y ∷ c finds found PowerOut 0 z ∷ [])) ≡ cond (a || b || c) 11 0
unfolding first_found number_of
head-tests true b c x y z = refl
head-tests false true c x y z = refl
head-tests false false true x y z = refl
head-tests false false false x y z = refl

pub head-number : (from : ℕ) (bs : List ℕ) → found_number (head_found from bs) ≡ cond (head_fault bs) 11 0
unfolding head_found head_fault
head-number from bs = head-tests (ltb 1 (mark_of bs)) (ltb 7 (phase_of bs)) (outside (power_of bs)) from (from + 1) (from + 2)

turn-test : (a : Bool) (v x : ℕ) → found_number (first_found (a finds found Turn v x ∷ [])) ≡ cond a 11 0
unfolding first_found number_of
turn-test true v x = refl
turn-test false v x = refl

pub turn-number : (from : ℕ) (bs : List ℕ) (v : ℕ) → found_number (turn_found from bs v) ≡ cond (turn_fault bs v) 11 0
unfolding turn_found
turn-number from bs v = turn-test (turn_fault bs v) v (from + (4 + v))

row-test : (a : Bool) (v x : ℕ) → found_number (first_found (a finds found Row v x ∷ [])) ≡ cond a 11 0
unfolding first_found number_of
row-test true v x = refl
row-test false v x = refl

pub row_number : (from n : ℕ) (bs : List ℕ) (v : ℕ) → found_number (row_found from n bs v) ≡ cond (row_fault n bs v) 11 0
unfolding row_found
row_number from n bs v = row-test (row_fault n bs v) v (from + (4 + n + 8 * v))

tie-tests : (a b : Bool) (j x y : ℕ) → found_number (first_found (a finds found Mask j x ∷ b finds found Side j y ∷ [])) ≡ cond (a || b) 11 0
unfolding first_found number_of
tie-tests true b j x y = refl
tie-tests false true j x y = refl
tie-tests false false j x y = refl

pub tie-number : (from n : ℕ) (bs : List ℕ) (j : ℕ) → found_number (tie_found from n bs j) ≡ cond (tie_fault n bs j) 11 0
unfolding tie_found tie_fault
tie-number from n bs j = tie-tests (leb (2 ^ n) (mask_of n bs j)) (ltb 1 (side_of n bs j)) j (from + (5 + 9 * n + 9 * j)) (from + (5 + 9 * n + 9 * j + 8))

-- ---- the first of n
below-number : (f : ℕ → Finding) (t : ℕ → Bool) → ((v : ℕ) → found_number (f v) ≡ cond (t v) 11 0) → (n : ℕ) → found_number (first_below n f) ≡ cond (any_below n t) 11 0
unfolding first_below any_below number_of
below-number f t h zero = refl
below-number f t h (suc n) = else-number (first_below n f) (f n) ∙ go (any_below n t) (t n) (below-number f t h n) (h n)
  where
    go : (a b : Bool) {x y : ℕ} → x ≡ cond a 11 0 → y ≡ cond b 11 0 → cond (eqb x 0) y x ≡ cond (a || b) 11 0
    go true b {x} {y} p q = ap (λ (k : ℕ). cond (eqb k 0) y k) p
    go false b {x} {y} p q = ap (λ (k : ℕ). cond (eqb k 0) y k) p ∙ q

-- ---- all of them: a test before others whose number is 11 or 0
before : (a b : Bool) (f : Finding) (fs : List Finding) → found_number f ≡ cond a 11 0 → found_number (in_order fs) ≡ cond b 11 0 → found_number (in_order (f ∷ fs)) ≡ cond (a || b) 11 0
before a b f fs p q = order-number f fs ∙ go a b p q
  where
    go : (a b : Bool) {x y : ℕ} → x ≡ cond a 11 0 → y ≡ cond b 11 0 → cond (eqb x 0) y x ≡ cond (a || b) 11 0
    go true b {x} {y} p q = ap (λ (k : ℕ). cond (eqb k 0) y k) p
    go false b {x} {y} p q = ap (λ (k : ℕ). cond (eqb k 0) y k) p ∙ q

joined : (a b c d e : Bool) → (a || (b || (c || (d || (e || false))))) ≡ (a || b || c || d || e)
joined true b c d e = refl
joined false true c d e = refl
joined false false true d e = refl
joined false false false true e = refl
joined false false false false true = refl
joined false false false false false = refl

pub body-number : (from wat n : ℕ) (bs : List ℕ) → found_number (body_found from wat n bs) ≡ cond (body_fault n bs) 11 0
unfolding body_found body_fault
body-number from wat n bs =
    let a = size_fault n bs in
    let b = head_fault bs in
    let c = any_below n (turn_fault bs) in
    let d = any_below n (row_fault n bs) in
    let e = any_below (tie_count n bs) (tie_fault n bs) in
    before a _ _ _ (size_number from wat n bs) (before b _ _ _ (head-number from bs) (before c _ _ _ (below-number (turn_found from bs) (turn_fault bs) (turn-number from bs) n)
    (before d _ _ _ (below-number (row_found from n bs) (row_fault n bs) (row_number from n bs) n) (before e false _ [] (below-number (tie_found from n bs) (tie_fault n bs) (tie-number from n bs) (tie_count n bs)) order-last))))
    ∙ ap (λ (t : Bool). cond t 11 0) (joined a b c d e)

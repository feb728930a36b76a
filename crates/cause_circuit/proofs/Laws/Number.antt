-- The number of the first fault of a circuit's body, or a record's, is the body's.
use mathlib.Core.Bool.{Bool, true, false, cond, not}
use mathlib.Core.List.{List, [], ◌∷◌}
use mathlib.Core.Path.{◌≡◌, refl, sym, ap, ap₂, ◌∙◌}
use Prim.Native.Nat.{ℕ, ◌+◌, ◌*◌, ◌%◌, ◌^◌}
use lib.Dec.{eqb, ltb, leb}
use lib.ListN.{length, drop}
use borrow.Author.Tests.{eqb-true}
use Rattle.fields.specs.Bytes.{number}
use Rattle.blocks.specs.Expansion.{item_count, blocks_number}
use Rattle.gates.specs.Circuit.{gates_number, items_number, circuit_number}
use Rattle.gates.specs.Record.{record_number}
use Rattle.circuit_number.specs.Inner.Tested.{tested_number}
use Rattle.circuit_number.proofs.Laws.Number.{record-tested, circuit-next, edition-good}
use Rattle.editions.specs.Edition.{good_edition}
use Rattle.cause.specs.declared.Cause.TheVariants.{Strings, Threes, Many, Wires, Input, Output}
use Rattle.cause.specs.Cause.{Finding, number_of, found, found_number, ◌finds◌, first_found, first_below, in_order}
use Rattle.cause.proofs.Laws.First.{order-number, order-last}
use Rattle.cause_blocks.specs.Blocks.{blocks_found}
use Rattle.cause_blocks.proofs.Laws.Number.{blocks-number}
use Rattle.cause_items.specs.Items.{item_found}
use Rattle.cause_items.proofs.Laws.Number.{items-number}
use Rattle.cause_circuit.specs.Circuit.{head_found, tested_found, circuit_found, record_found}

head-tests : (a b c d e f : Bool) (i x y w u v : ℕ) → found_number (first_found (a finds found Threes i x ∷ b finds found Many 4096 y ∷ c finds found Wires 0 w ∷ d finds found Wires 0 w ∷ e finds found Input 0 u ∷ f finds found Output 0 v ∷ []))
    ≡ cond a 11 (cond b 11 (cond c 6 (cond d 6 (cond e 8 (cond f 8 0)))))
unfolding first_found number_of
head-tests true b c d e f i x y w u v = refl
head-tests false true c d e f i x y w u v = refl
head-tests false false true d e f i x y w u v = refl
head-tests false false false true e f i x y w u v = refl
head-tests false false false false true f i x y w u v = refl
head-tests false false false false false true i x y w u v = refl
head-tests false false false false false false i x y w u v = refl

-- the items and the blocks behind the head
after : (a b c d e f : Bool) (g k h i : ℕ) → h ≡ cond a 11 (cond b 11 (cond c 6 (cond d 6 (cond e 8 (cond f 8 0))))) → i ≡ cond (not (eqb g 0)) g k
    → cond (eqb h 0) i h ≡ cond a 11 (cond b 11 (cond c 6 (cond d 6 (cond e 8 (cond f 8 (cond (not (eqb g 0)) g k))))))
after true b c d e f g k h i p q = ap (λ (x : ℕ). cond (eqb x 0) i x) p
after false true c d e f g k h i p q = ap (λ (x : ℕ). cond (eqb x 0) i x) p
after false false true d e f g k h i p q = ap (λ (x : ℕ). cond (eqb x 0) i x) p
after false false false true e f g k h i p q = ap (λ (x : ℕ). cond (eqb x 0) i x) p
after false false false false true f g k h i p q = ap (λ (x : ℕ). cond (eqb x 0) i x) p
after false false false false false true g k h i p q = ap (λ (x : ℕ). cond (eqb x 0) i x) p
after false false false false false false g k h i p q = ap (λ (x : ℕ). cond (eqb x 0) i x) p ∙ q

turned : (b : Bool) (x y : ℕ) → cond b y x ≡ cond (not b) x y
turned true x y = refl
turned false x y = refl

-- a number and then 0 is that number
alone : (n : ℕ) → cond (eqb n 0) 0 n ≡ n
alone n = go (eqb n 0) refl
  where
    go : (b : Bool) → eqb n 0 ≡ b → cond b 0 n ≡ n
    go true e = sym (eqb-true n 0 e)
    go false e = refl

pub tested-number : (from at wat d width input output : ℕ) (gs : List ℕ) → found_number (tested_found from at wat d width input output gs) ≡ tested_number d width input output gs
unfolding tested_found head_found tested_number items_number
tested-number from at wat d width input output gs =
    let items = first_below (item_count gs) (item_found at d width gs) in
    let blocks = blocks_found at gs in
    let last : found_number (in_order (blocks ∷ [])) ≡ blocks_number gs = order-number blocks [] ∙ ap₂ (λ (x y : ℕ). cond (eqb y 0) x y) order-last (blocks-number at gs) ∙ alone (blocks_number gs) in
    let next : found_number (in_order (items ∷ blocks ∷ [])) ≡ cond (not (eqb (gates_number d width gs (item_count gs)) 0)) (gates_number d width gs (item_count gs)) (blocks_number gs) =
    order-number items (blocks ∷ []) ∙ ap₂ (λ (x y : ℕ). cond (eqb y 0) x y) last (items-number at d width gs (item_count gs)) ∙ turned (eqb (gates_number d width gs (item_count gs)) 0) (gates_number d width gs (item_count gs)) (blocks_number gs) in
    order-number _ (items ∷ blocks ∷ [])
    ∙ after (not (eqb (length gs % 3) 0)) (ltb 4096 (item_count gs)) (ltb width 1) (ltb 31 width) (leb (2 ^ width) input) (leb (2 ^ width) output) (gates_number d width gs (item_count gs)) (blocks_number gs) _ _
    (head-tests (not (eqb (length gs % 3) 0)) (ltb 4096 (item_count gs)) (ltb width 1) (ltb 31 width) (leb (2 ^ width) input) (leb (2 ^ width) output) (item_count gs) (at + 3 * item_count gs) (at + 12288) wat from (from + 4)) next

go : (b : Bool) (from : ℕ) (f : Finding) {n : ℕ} → found_number f ≡ n → found_number (cond b (found Strings 0 from) f) ≡ cond b 11 n
unfolding number_of
go true from f e = refl
go false from f e = e

-- the number of a circuit's body, of a good edition
pub circuit-number : (from wat e width : ℕ) (bs : List ℕ) → good_edition e ≡ true → found_number (circuit_found from wat e width bs) ≡ cond (ltb (length bs) 8) 11 (circuit_number e width (number 4 bs 0) (number 4 bs 4) (drop 8 bs))
unfolding circuit_found
circuit-number from wat e width bs good =
    go (ltb (length bs) 8) _ _ (tested-number from (from + 8) wat e width (number 4 bs 0) (number 4 bs 4) (drop 8 bs) ∙ circuit-next e width (number 4 bs 0) (number 4 bs 4) (drop 8 bs) 0 _ (edition-good e good) refl refl)

pub record-number : (from wat width : ℕ) (bs : List ℕ) → found_number (record_found from wat width bs) ≡ cond (ltb (length bs) 4) 11 (record_number width (number 4 bs 0) (drop 4 bs))
unfolding record_found
record-number from wat width bs =
    go (ltb (length bs) 4) _ _ (tested-number from (from + 4) wat 3 width (number 4 bs 0) 0 (drop 4 bs) ∙ record-tested width (number 4 bs 0) (drop 4 bs))

-- The number of an item's fault is the item's, so that the first fault's is that of the first item that is refused.
use mathlib.Core.Bool.{Bool, true, false, cond, ◌&&◌, ◌||◌}
use mathlib.Core.List.{List, [], ◌∷◌}
use mathlib.Core.Path.{◌≡◌, refl, sym, ap, ap₂, ◌∙◌}
use Prim.Native.Nat.{ℕ, zero, suc, ◌+◌, ◌*◌}
use native.Mathlib.Omega.{arith}
use lib.Dec.{eqb, leb}
use lib.ListN.{get_or}
use borrow.Author.Tests.{eqb-true}
use Rattle.blocks.specs.Expansion.{code_at, wire_at}
use Rattle.gates.specs.declared.Reading.{Reading}
use Rattle.gates.specs.Read.{one_wire, two_wire, one_read, two_read, word_code, word_read, word_in, mark, mark_read, mark_in, measures, cut_read, gate_read}
use Rattle.gates.specs.Circuit.{number_of as read_number, item_at, gates_number}
use Rattle.cause.specs.declared.Cause.TheVariants.{Code, Wire, SecondWire, SameWire, SecondByte, Outcome, NoCount, Stray}
use Rattle.cause.specs.Cause.{Finding, number_of, found, found_number, ◌finds◌, first_found, first_below}
use Rattle.cause.proofs.Laws.First.{else-number}
use Rattle.cause_items.specs.Items.{range_found, read_found, item_found}

-- ---- which numbers an item has
abbrev Among : ℕ → Type 0
Among k = (eqb k 0 || eqb k 7 || eqb k 6 || eqb k 2 || eqb k 3) ≡ true

reads : (t : Bool) (a b : Reading) → Among (read_number a) → Among (read_number b) → Among (read_number (cond t a b))
reads true a b h k = h
reads false a b h k = k

among : (d c w s width : ℕ) → Among (read_number (gate_read d c w s width))
unfolding gate_read one_read two_read word_in word_read mark_in mark_read cut_read
among d c w s width =
    reads (one_wire c) _ _ (reads (leb width w) _ _ refl (reads (eqb s 0) _ _ refl refl))
    (reads (two_wire c) _ _ (reads (leb width w) _ _ refl (reads (leb width s) _ _ refl (reads (eqb w s) _ _ refl refl)))
    (reads (word_code c) _ _ (reads (eqb d 1) _ _ refl (reads (leb width w) _ _ refl (reads (eqb s 0) _ _ refl refl)))
    (reads (mark c) _ _
    (reads (eqb d 1) _ _ refl (reads (eqb s 0) _ _ (reads (eqb c 64) _ _ (reads (eqb w 0) _ _ refl refl) (reads (eqb w 0) _ _ refl refl)) refl))
    (reads (measures d c) _ _ (reads (leb width w) _ _ refl (reads (leb s 1) _ _ refl refl)) refl))))

-- ---- the number of a fault
range-tests : (a b c d e : Bool) (j x y : ℕ) → found_number (first_found (a finds found Stray j y ∷ b finds found NoCount j x ∷ c finds found Stray j y ∷ d finds found Stray j x ∷ e finds found Outcome j y ∷ true finds found SecondByte j y ∷ [])) ≡ 3
unfolding first_found number_of
range-tests true b c d e j x y = refl
range-tests false true c d e j x y = refl
range-tests false false true d e j x y = refl
range-tests false false false true e j x y = refl
range-tests false false false false true j x y = refl
range-tests false false false false false j x y = refl

range-number : (byte j code second : ℕ) → found_number (range_found byte j code second) ≡ 3
unfolding range_found
range-number byte j code second = range-tests _ (eqb code 64) _ (eqb code 65) (eqb code 80) j (byte + 1) (byte + 2)

read-tests : (z a b w c d : Bool) (j x y u : ℕ) (r : Finding) → found_number r ≡ 3 → (z || a || b || c || d) ≡ true
    → found_number (first_found (a finds found Code j x ∷ (b && w) finds found Wire j y ∷ b finds found SecondWire j u ∷ c finds found SameWire j u ∷ d finds r ∷ [])) ≡ cond a 7 (cond b 6 (cond c 2 (cond d 3 0)))
unfolding first_found number_of
read-tests z true b w c d j x y u r e h = refl
read-tests z false true true c d j x y u r e h = refl
read-tests z false true false c d j x y u r e h = refl
read-tests z false false w true d j x y u r e h = refl
read-tests z false false w false true j x y u r e h = e
read-tests z false false w false false j x y u r e h = refl

-- a number among these is what its tests say
told : (k : ℕ) → Among k → cond (eqb k 7) 7 (cond (eqb k 6) 6 (cond (eqb k 2) 2 (cond (eqb k 3) 3 0))) ≡ k
told k h = go (eqb k 0) refl (eqb k 7) refl (eqb k 6) refl (eqb k 2) refl (eqb k 3) refl h
  where
    clash : false ≡ true → ⊥
    clash p = let q : ◌≡◌ {A = ℕ} 0 1 = ap (λ (t : Bool). cond t 1 0) p in absurd (omega arith)

    go : (z : Bool) → eqb k 0 ≡ z → (a : Bool) → eqb k 7 ≡ a → (b : Bool) → eqb k 6 ≡ b → (c : Bool) → eqb k 2 ≡ c → (d : Bool) → eqb k 3 ≡ d → (z || a || b || c || d) ≡ true
        → cond a 7 (cond b 6 (cond c 2 (cond d 3 0))) ≡ k
    go z p true q b r c s d t h = sym (eqb-true k 7 q)
    go z p false q true r c s d t h = sym (eqb-true k 6 r)
    go z p false q false r true s d t h = sym (eqb-true k 2 s)
    go z p false q false r false s true t h = sym (eqb-true k 3 t)
    go true p false q false r false s false t h = sym (eqb-true k 0 p)
    go false p false q false r false s false t h = absurd (clash h)

pub read_number_lem : (byte j width k code wire second : ℕ) → Among k → found_number (read_found byte j width k code wire second) ≡ k
unfolding read_found
read_number_lem byte j width k code wire second h =
    read-tests (eqb k 0) (eqb k 7) (eqb k 6) (leb width wire) (eqb k 2) (eqb k 3) j byte (byte + 1) (byte + 2) (range_found byte j code second) (range-number byte j code second) h ∙ told k h

pub item-number : (at d width : ℕ) (bs : List ℕ) (j : ℕ) → found_number (item_found at d width bs j) ≡ read_number (item_at d width bs j)
unfolding item_found item_at
item-number at d width bs j = read_number_lem _ j width _ _ _ _ (among d (code_at bs j) (wire_at bs j) (get_or bs (3 * j + 2) 0) width)

pub items-number : (at d width : ℕ) (bs : List ℕ) (n : ℕ) → found_number (first_below n (item_found at d width bs)) ≡ gates_number d width bs n
unfolding first_below gates_number number_of
items-number at d width bs zero = refl
items-number at d width bs (suc n) =
    else-number (first_below n (item_found at d width bs)) (item_found at d width bs n)
    ∙ ap₂ (λ (x y : ℕ). cond (eqb x 0) y x) (items-number at d width bs n) (item-number at d width bs n)

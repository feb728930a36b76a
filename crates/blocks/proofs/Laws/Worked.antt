-- Worked expansions and every fault, computed from the definitions; both limits met exactly.
use mathlib.Core.Bool.{Bool, true, false, cond}
use mathlib.Core.List.{List, [], ◌∷◌, ◌++◌}
use mathlib.Core.Path.{◌≡◌, refl, ap, ap₂, ◌∙◌}
use Prim.Native.Nat.{ℕ, zero, suc, ◌+◌, ◌-◌, ◌*◌}
use native.Mathlib.Omega.{arith}
use lib.Dec.{eqb}
use lib.ListN.{length}
use borrow.Author.Tests.{eq-eqb, lt-ltb, le-ltb}
use Rattle.blocks.specs.Expansion.{code_at, wire_at, again, opened, levels, expansion, faulty, blocks_fault, blocks_number}
use Rattle.blocks.proofs.Laws.Steps.{length-append, length-again}

-- marks and a gate, each before the rest of a body
open-mark : ℕ → List ℕ → List ℕ
open-mark n bs = 64 ∷ n ∷ 0 ∷ bs

close-mark : List ℕ → List ℕ
close-mark bs = 65 ∷ 0 ∷ 0 ∷ bs

gate : ℕ → List ℕ → List ℕ
gate c bs = c ∷ 0 ∷ 0 ∷ bs

-- three times H, S
thrice : expansion (open-mark 3 (gate 1 (gate 2 (close-mark [])))) ≡ 1 ∷ 2 ∷ 1 ∷ 2 ∷ 1 ∷ 2 ∷ []
unfolding open-mark close-mark gate expansion levels again
thrice = refl

-- H, twice (S, three times X), Z
nested : expansion (gate 1 (open-mark 2 (gate 2 (open-mark 3 (gate 5 (close-mark (close-mark (gate 4 [])))))))) ≡ 0 ∷ 2 ∷ 4 ∷ 4 ∷ 4 ∷ 2 ∷ 4 ∷ 4 ∷ 4 ∷ 7 ∷ []
unfolding open-mark close-mark gate expansion levels again
nested = refl

-- so many blocks in each other around a gate
deep : ℕ → List ℕ → List ℕ
deep zero bs = gate 1 bs
deep (suc n) bs = open-mark 1 (deep n (close-mark bs))

-- a block run once that holds item 8, and nothing behind its close
around : (bs : List ℕ) (n j d e : ℕ) (ls : List (List ℕ)) → code_at bs j ≡ 64 → wire_at bs j ≡ 1 → eqb d 0 ≡ false → d - 1 ≡ e → levels bs n (suc j) e ≡ (8 ∷ []) ∷ ([] ∷ ls) → levels bs (suc n) j d ≡ (8 ∷ []) ∷ ls
unfolding levels again
around bs n j d e ls c w z s f = rw (eq-eqb (code_at bs j) 64 c, z) (ap₂ (λ (k : ℕ) (x : List (List ℕ)). opened k x) w (ap (levels bs n (suc j)) s ∙ f))

-- behind eight marks that open: the gate, and the rests of nine blocks
eighth : levels (deep 8 []) 9 8 0 ≡ (8 ∷ []) ∷ [] ∷ [] ∷ [] ∷ [] ∷ [] ∷ [] ∷ [] ∷ [] ∷ []
unfolding deep open-mark close-mark gate levels
eighth = refl

eight : blocks_number (deep 8 []) ≡ 0
unfolding deep open-mark close-mark gate blocks_number blocks_fault
eight =
    ap (λ (x : List (List ℕ)). cond (faulty x) 16 0)
    (around (deep 8 []) 16 0 8 7 [] refl refl refl refl
    (around (deep 8 []) 15 1 7 6 _ refl refl refl refl
    (around (deep 8 []) 14 2 6 5 _ refl refl refl refl
    (around (deep 8 []) 13 3 5 4 _ refl refl refl refl
    (around (deep 8 []) 12 4 4 3 _ refl refl refl refl
    (around (deep 8 []) 11 5 3 2 _ refl refl refl refl
    (around (deep 8 []) 10 6 2 1 _ refl refl refl refl
    (around (deep 8 []) 9 7 1 0 _ refl refl refl refl eighth))))))))

-- a fault behind a mark that opens a block is a fault before it
inside : (bs : List ℕ) (n j d e : ℕ) → code_at bs j ≡ 64 → d - 1 ≡ e → levels bs n (suc j) e ≡ [] → levels bs (suc n) j d ≡ []
unfolding levels
inside bs n j d e c s f = rw (eq-eqb (code_at bs j) 64 c) (go (eqb d 0))
  where
    go : (b : Bool) → cond b [] (opened (wire_at bs j) (levels bs n (suc j) (d - 1))) ≡ []
    go true = refl
    go false = ap (opened (wire_at bs j)) (ap (levels bs n (suc j)) s ∙ f)

ninth : levels (deep 9 []) 11 8 0 ≡ []
unfolding deep open-mark close-mark gate levels
ninth = refl

nine : blocks_number (deep 9 []) ≡ 16
unfolding deep open-mark close-mark gate blocks_number blocks_fault
nine =
    ap (λ (x : List (List ℕ)). cond (faulty x) 16 0)
    (inside (deep 9 []) 18 0 8 7 refl refl
    (inside (deep 9 []) 17 1 7 6 refl refl
    (inside (deep 9 []) 16 2 6 5 refl refl
    (inside (deep 9 []) 15 3 5 4 refl refl
    (inside (deep 9 []) 14 4 4 3 refl refl
    (inside (deep 9 []) 13 5 3 2 refl refl
    (inside (deep 9 []) 12 6 2 1 refl refl
    (inside (deep 9 []) 11 7 1 0 refl refl ninth))))))))

none : blocks_number [] ≡ 0
unfolding blocks_number blocks_fault levels
none = refl

unopened : blocks_number (close-mark []) ≡ 16
unfolding close-mark blocks_number blocks_fault levels
unopened = refl

unclosed : blocks_number (open-mark 1 (gate 1 [])) ≡ 16
unfolding open-mark gate blocks_number blocks_fault levels
unclosed = refl

empty : blocks_number (open-mark 3 (close-mark [])) ≡ 16
unfolding open-mark close-mark blocks_number blocks_fault levels
empty = refl

-- a block whose one item is an empty block
hollow : blocks_number (open-mark 3 (open-mark 2 (close-mark (close-mark [])))) ≡ 16
unfolding open-mark close-mark blocks_number blocks_fault levels
hollow = refl

-- ---- 255 · 255 + 511 gates, and behind them the gates of more
most : List ℕ → List ℕ
most bs = open-mark 255 (gate 5 (open-mark 254 (gate 5 (close-mark (close-mark (open-mark 255 (gate 5 (close-mark (open-mark 255 (gate 5 (close-mark (gate 5 bs))))))))))))

-- what is written out of it, before l
written : List ℕ → List ℕ
written l = again 255 (1 ∷ (again 254 (3 ∷ []) ++ [])) ++ (again 255 (7 ∷ []) ++ (again 255 (10 ∷ []) ++ (12 ∷ l)))

written-length : (l : List ℕ) → length (written l) ≡ 65536 + length l
unfolding written
written-length l =
    length-append (again 255 (1 ∷ (again 254 (3 ∷ []) ++ []))) _
    ∙ ap₂ (λ (a b : ℕ). a + b)
    (length-again 255 (1 ∷ (again 254 (3 ∷ []) ++ [])) ∙ ap (λ (k : ℕ). 255 * suc k) (length-append (again 254 (3 ∷ [])) [] ∙ ap (λ (k : ℕ). k + 0) (length-again 254 (3 ∷ []))))
    (length-append (again 255 (7 ∷ [])) _ ∙ ap₂ (λ (a b : ℕ). a + b) (length-again 255 (7 ∷ [])) (length-append (again 255 (10 ∷ [])) (12 ∷ l) ∙ ap (λ (k : ℕ). k + suc (length l)) (length-again 255 (10 ∷ []))))
    ∙ omega arith

at_most : levels (most []) 13 0 8 ≡ written [] ∷ []
unfolding written most open-mark close-mark gate levels
at_most = refl

one_more : levels (most (gate 5 [])) 14 0 8 ≡ written (13 ∷ []) ∷ []
unfolding written most open-mark close-mark gate levels
one_more = refl

limit-met : blocks_number (most []) ≡ 0
unfolding most open-mark close-mark gate blocks_number blocks_fault
limit-met = ap (λ (x : List (List ℕ)). cond (faulty x) 16 0) at_most ∙ ap (λ (b : Bool). cond b 16 0) (le-ltb 65536 (length (written [])) (omega (arith, written-length [])))

limit-passed : blocks_number (most (gate 5 [])) ≡ 16
unfolding most open-mark close-mark gate blocks_number blocks_fault
limit-passed = ap (λ (x : List (List ℕ)). cond (faulty x) 16 0) one_more ∙ ap (λ (b : Bool). cond b 16 0) (lt-ltb 65536 (length (written (13 ∷ []))) (omega (arith, written-length (13 ∷ []))))

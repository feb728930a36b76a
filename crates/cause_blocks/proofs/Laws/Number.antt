-- A fault of the marks is a fault of the blocks, so that the number of the first fault is the blocks' number.
use mathlib.Core.Bool.{Bool, true, false, cond, not, ◌&&◌}
use mathlib.Core.List.{List, [], ◌∷◌}
use mathlib.Core.Logic.{◌≢◌, ⊎_elim}
use mathlib.Core.Path.{◌≡◌, refl, sym, ap, ◌∙◌}
use Prim.Native.Nat.{ℕ, zero, suc, ◌+◌, ◌-◌, ◌*◌}
use native.Mathlib.Omega.{arith}
use lib.Dec.{eqb}
use borrow.Author.Tests.{ne_eqb, eqb-true}
use Rattle.blocks.specs.Expansion.{code_at, wire_at, item_count, levels, led, shut, opened, faulty, blocks_fault, blocks_number}
use Rattle.bits.proofs.Laws.Bit.{same_or}
use Rattle.cause.specs.declared.Cause.TheVariants.{Deep, Unopened, Empty, Unclosed, Expansion}
use Rattle.cause.specs.Cause.{Finding, Look, number_of, found, found_number, ◌finds◌, first_found, or_else}
use Rattle.cause.proofs.Laws.First.{else-first, else-next, order-here, order-next, order-one, first-number, last-number}
use Rattle.cause_blocks.specs.Blocks.{Scan, mark_found, behind, scan_found, start, long_found, blocks_found}

-- ---- what is left from an item on cannot stand: nothing, or, behind a mark that opens, an empty block
abbrev Bad : List (List ℕ) → Bool → Type 0
Bad [] fresh = Unit {0}
Bad ([] ∷ ls) true = Unit {0}
Bad ([] ∷ ls) false = ⊥
Bad ((i ∷ l) ∷ ls) fresh = ⊥

bad-opened : (w : ℕ) (ls : List (List ℕ)) (fresh : Bool) → Bad ls true → Bad (opened w ls) fresh
bad-opened w [] fresh b = tt
bad-opened w ([] ∷ ls) fresh b = tt
bad-opened w ((i ∷ l) ∷ ls) fresh b = absurd b

bad-empty : (ls : List (List ℕ)) → Bad (shut ls) true
bad-empty [] = tt
bad-empty (l ∷ ls) = tt

bad-shut : (ls : List (List ℕ)) → Bad ls false → Bad (shut ls) false
bad-shut [] b = tt
bad-shut ([] ∷ ls) b = absurd b
bad-shut ((i ∷ l) ∷ ls) b = absurd b

bad-led : (j : ℕ) (ls : List (List ℕ)) (fresh : Bool) → Bad ls false → Bad (led j ls) fresh
bad-led j [] fresh b = tt
bad-led j ([] ∷ ls) fresh b = absurd b
bad-led j ((i ∷ l) ∷ ls) fresh b = absurd b

bad-faulty : (ls : List (List ℕ)) → Bad ls false → faulty ls ≡ true
bad-faulty [] b = refl
bad-faulty ([] ∷ ls) b = absurd b
bad-faulty ((i ∷ l) ∷ ls) b = absurd b

-- a block is open at the end
bad-end : (b fresh : Bool) (o x : ℕ) → found_number (first_found (not b finds found Unclosed o x ∷ [])) ≢ 0 → Bad (cond b ([] ∷ []) []) fresh
unfolding first_found number_of
bad-end true fresh o x ne = absurd (ne refl)
bad-end false fresh o x ne = tt

clash : true ≡ false → ⊥
clash z = let q : ◌≡◌ {A = ℕ} 1 0 = ap (λ (b : Bool). cond b 1 0) z in absurd (omega arith)

-- an item is at fault as a mark, or what comes behind it cannot stand
bad-item : (opens closes none all fresh : Bool) (w j d x : ℕ) (lev : ℕ → List (List ℕ)) (rest : Finding) → (opens && closes) ≡ false
    → (found_number rest ≢ 0 → Bad (lev (cond opens (d - 1) (cond closes (suc d) d))) opens)
    → found_number (or_else (first_found ((opens && none) finds found Deep j x ∷ (closes && all) finds found Unopened j x ∷ (closes && fresh) finds found Empty j x ∷ [])) rest) ≢ 0
    → Bad (cond opens (cond none [] (opened w (lev (d - 1)))) (cond closes (cond all [] (shut (lev (suc d)))) (led j (lev d)))) fresh
unfolding first_found or_else number_of
bad-item true true none all fresh w j d x lev rest h ih ne = absurd (clash h)
bad-item true false true all fresh w j d x lev rest h ih ne = tt
bad-item true false false all fresh w j d x lev rest h ih ne = bad-opened w (lev (d - 1)) fresh (ih ne)
bad-item false true none true fresh w j d x lev rest h ih ne = tt
bad-item false true none false true w j d x lev rest h ih ne = bad-empty (lev (suc d))
bad-item false true none false false w j d x lev rest h ih ne = bad-shut (lev (suc d)) (ih ne)
bad-item false false none all fresh w j d x lev rest h ih ne = bad-led j (lev d) fresh (ih ne)

-- no code both opens and closes
apart : (k : ℕ) → (eqb k 64 && eqb k 65) ≡ false
apart k = go (eqb k 64) refl
  where
    go : (b : Bool) → eqb k 64 ≡ b → (b && eqb k 65) ≡ false
    go true e = ne_eqb k 65 (λ z. omega (arith, eqb-true k 64 e, z))
    go false e = refl

bad-levels : (at : ℕ) (bs : List ℕ) (n j : ℕ) (s : Scan) → found_number (scan_found at bs n j s) ≢ 0 → Bad (levels bs n j s.more) s.fresh
unfolding scan_found levels mark_found behind
bad-levels at bs zero j s ne = bad-end (eqb s.more 8) s.fresh s.outer (at + 3 * s.outer) ne
bad-levels at bs (suc n) j s ne =
    bad-item (eqb (code_at bs j) 64) (eqb (code_at bs j) 65) (eqb s.more 0) (eqb s.more 8) s.fresh (wire_at bs j) j s.more (at + 3 * j)
    (levels bs n (suc j)) (scan_found at bs n (suc j) (behind (code_at bs j) j s)) (apart (code_at bs j))
    (bad-levels at bs n (suc j) (behind (code_at bs j) j s)) ne

-- ---- the numbers
abbrev Sixteen : Finding → Type 0
Sixteen f = found_number f ≢ 0 → found_number f ≡ 16

sixteen-first : (b : Bool) (f : Finding) (ts : List Look) → found_number f ≡ 16 → Sixteen (first_found ts) → Sixteen (first_found (b finds f ∷ ts))
unfolding first_found
sixteen-first true f ts e h ne = e
sixteen-first false f ts e h ne = h ne

sixteen-last : Sixteen (first_found [])
unfolding first_found number_of
sixteen-last ne = absurd (ne refl)

sixteen-else : (f g : Finding) → Sixteen f → Sixteen g → Sixteen (or_else f g)
sixteen-else f g h k ne =
    ⊎_elim (λ z. sym (ap found_number (else-next f g z)) ∙ k (λ e. ne (sym (ap found_number (else-next f g z)) ∙ e)))
    (λ n. sym (ap found_number (else-first f g n)) ∙ h n) (same_or (found_number f) 0)

sixteen-mark : (at code j : ℕ) (s : Scan) → Sixteen (mark_found at code j s)
unfolding mark_found number_of
sixteen-mark at code j s = sixteen-first _ (found Deep j (at + 3 * j)) _ refl (sixteen-first _ (found Unopened j (at + 3 * j)) _ refl (sixteen-first _ (found Empty j (at + 3 * j)) _ refl sixteen-last))

sixteen-scan : (at : ℕ) (bs : List ℕ) (n j : ℕ) (s : Scan) → Sixteen (scan_found at bs n j s)
unfolding scan_found number_of
sixteen-scan at bs zero j s = sixteen-first _ (found Unclosed s.outer (at + 3 * s.outer)) _ refl sixteen-last
sixteen-scan at bs (suc n) j s = sixteen-else (mark_found at (code_at bs j) j s) _ (sixteen-mark at (code_at bs j) j s) (sixteen-scan at bs n (suc j) (behind (code_at bs j) j s))

pub long-number : (at : ℕ) (bs : List ℕ) → found_number (long_found at bs) ≡ blocks_number bs
unfolding long_found blocks_number number_of
long-number at bs = first-number (blocks_fault bs) (found Expansion 0 at) [] ∙ ap (cond (blocks_fault bs) 16) last-number

faulty-number : (bs : List ℕ) → blocks_fault bs ≡ true → 16 ≡ blocks_number bs
unfolding blocks_number
faulty-number bs e = sym (ap (λ (b : Bool). cond b 16 0) e)

-- a fault of the marks refuses the blocks
pub marks-refused : (at : ℕ) (bs : List ℕ) → found_number (scan_found at bs (item_count bs) 0 start) ≢ 0 → blocks_fault bs ≡ true
unfolding blocks_fault
marks-refused at bs ne = bad-faulty (levels bs (item_count bs) 0 8) (bad-levels at bs (item_count bs) 0 start ne)

pub blocks-number : (at : ℕ) (bs : List ℕ) → found_number (blocks_found at bs) ≡ blocks_number bs
unfolding blocks_found
blocks-number at bs =
    let f = scan_found at bs (item_count bs) 0 start in
    ⊎_elim
    (λ z. sym (ap found_number (order-next f (long_found at bs ∷ []) (long_found at bs) z (order-one (long_found at bs)))) ∙ long-number at bs)
    (λ ne. sym (ap found_number (order-here f (long_found at bs ∷ []) f refl ne)) ∙ sixteen-scan at bs (item_count bs) 0 start ne ∙ faulty-number bs (marks-refused at bs ne))
    (same_or (found_number f) 0)

-- The first fault of blocks on each way through the code: a mark, what is known behind it, and the scan.
use mathlib.Core.Bool.{Bool, true, false, cond, not, ◌&&◌}
use mathlib.Core.List.{List, []}
use mathlib.Core.Logic.{◌≢◌}
use mathlib.Core.Path.{◌≡◌, refl, sym, ap, ap₂, ◌∙◌}
use Prim.Native.Nat.{ℕ, suc, ◌+◌, ◌-◌, ◌*◌, ◌≤◌, ◌<◌}
use native.Mathlib.Numerals.{add-one}
use native.Mathlib.Omega.{arith}
use lib.Dec.{eqb}
use borrow.Author.Tests.{eq-eqb, ne_eqb, eqb-true}
use Rattle.blocks.specs.Expansion.{code_at, item_count, blocks_fault, blocks_number}
use Rattle.cause.specs.declared.Cause.TheVariants.{Deep, Unopened, Empty, Unclosed, Expansion}
use Rattle.cause.specs.Cause.{Finding, number_of, found, sound, found_number, or_else}
use Rattle.cause.proofs.Laws.First.{pick, pass, no_more, else-first, else-next, order-here, order-next, order-end}
use Rattle.cause_blocks.specs.Blocks.{Scan, mark_found, behind, scan_found, start, long_found, blocks_found}
use Rattle.cause_blocks.specs.Inner.Steps.{Steps}
use Rattle.cause_blocks.proofs.Laws.Number.{long-number}

no-left : (a b : Bool) → a ≡ false → (a && b) ≡ false
no-left a b e = ap (λ (x : Bool). x && b) e

no-right : (a b : Bool) → b ≡ false → (a && b) ≡ false
no-right true b e = e
no-right false b e = refl

-- ---- a mark
module _ (at code j : ℕ) (s : Scan) (r : Finding) where
  pub mark-none : code ≢ 65 → code ≢ 64 → r ≡ sound → r ≡ mark_found at code j s
  unfolding mark_found
  mark-none m k h =
      pass _ _ _ _ (no-left _ _ (ne_eqb code 64 k)) (pass _ _ _ _ (no-left _ _ (ne_eqb code 65 m)) (pass _ _ _ _ (no-left _ _ (ne_eqb code 65 m)) (no_more _ h)))

  pub mark-room : code ≢ 65 → s.more ≢ 0 → r ≡ sound → r ≡ mark_found at code j s
  unfolding mark_found
  mark-room m k h =
      pass _ _ _ _ (no-right (eqb code 64) _ (ne_eqb s.more 0 k)) (pass _ _ _ _ (no-left _ _ (ne_eqb code 65 m)) (pass _ _ _ _ (no-left _ _ (ne_eqb code 65 m)) (no_more _ h)))

  pub mark-deep : code ≡ 64 → s.more ≡ 0 → r ≡ found Deep j (at + 3 * j) → r ≡ mark_found at code j s
  unfolding mark_found
  mark-deep m k h = pick _ _ _ _ h (ap₂ ◌&&◌ (eq-eqb code 64 m) (eq-eqb s.more 0 k))

  module _ (m : code ≡ 65) where
    not-open : eqb code 64 ≡ false
    not-open = ne_eqb code 64 (λ z. omega (arith, m, z))

    pub mark-unopened : s.more ≡ 8 → r ≡ found Unopened j (at + 3 * j) → r ≡ mark_found at code j s
    unfolding mark_found
    mark-unopened k h = pass _ _ _ _ (no-left _ _ not-open) (pick _ _ _ _ h (ap₂ ◌&&◌ (eq-eqb code 65 m) (eq-eqb s.more 8 k)))

    pub mark-empty : s.more ≢ 8 → s.fresh ≡ true → r ≡ found Empty j (at + 3 * j) → r ≡ mark_found at code j s
    unfolding mark_found
    mark-empty k f h = pass _ _ _ _ (no-left _ _ not-open) (pass _ _ _ _ (no-right (eqb code 65) _ (ne_eqb s.more 8 k)) (pick _ _ _ _ h (ap₂ ◌&&◌ (eq-eqb code 65 m) f)))

    pub mark-closes : s.more ≢ 8 → s.fresh ≡ false → r ≡ sound → r ≡ mark_found at code j s
    unfolding mark_found
    mark-closes k f h = pass _ _ _ _ (no-left _ _ not-open) (pass _ _ _ _ (no-right (eqb code 65) _ (ne_eqb s.more 8 k)) (pass _ _ _ _ (no-right (eqb code 65) _ f) (no_more _ h)))

-- a mark that is not at fault
pub steps : (at code j : ℕ) (s : Scan) → s.more ≤ 8 → found_number (mark_found at code j s) ≡ 0 → Steps code s
unfolding number_of
steps at code j s few z = record {
  few = few;
  room = λ m k. let q : ◌≡◌ {A = ℕ} 16 0 = ap found_number (mark-deep at code j s (found Deep j (at + 3 * j)) m k refl) ∙ z in omega arith;
  open-one = λ m k. let q : ◌≡◌ {A = ℕ} 16 0 = ap found_number (mark-unopened at code j s (found Unopened j (at + 3 * j)) m k refl) ∙ z in omega arith;
}

-- ---- what is known behind an item
scan-eq : (s t : Scan) → s.more ≡ t.more → s.outer ≡ t.outer → s.fresh ≡ t.fresh → s ≡ t
scan-eq s t a b c = λ i. record { more = a i; outer = b i; fresh = c i }

module _ (code j : ℕ) (s : Scan) where
  pub step-outermost : code ≡ 64 → s.more ≡ 8 → record { more = 7; outer = j; fresh = true } ≡ behind code j s
  unfolding behind
  step-outermost m k =
      scan-eq _ (behind code j s) (sym (ap (λ (b : Bool). cond b (s.more - 1) (cond (eqb code 65) (suc s.more) s.more)) (eq-eqb code 64 m) ∙ ap (λ (x : ℕ). x - 1) k))
      (sym (ap (λ (b : Bool). cond b j s.outer) (ap₂ ◌&&◌ (eq-eqb code 64 m) (eq-eqb s.more 8 k)))) (sym (eq-eqb code 64 m))

  pub step-open : code ≡ 64 → s.more ≢ 8 → record { more = s.more - 1; outer = s.outer; fresh = true } ≡ behind code j s
  unfolding behind
  step-open m k =
      scan-eq _ (behind code j s) (sym (ap (λ (b : Bool). cond b (s.more - 1) (cond (eqb code 65) (suc s.more) s.more)) (eq-eqb code 64 m)))
      (sym (ap (λ (b : Bool). cond b j s.outer) (no-right (eqb code 64) _ (ne_eqb s.more 8 k)))) (sym (eq-eqb code 64 m))

  module _ (m : code ≢ 64) where
    pub step-close : code ≡ 65 → record { more = s.more + 1; outer = s.outer; fresh = false } ≡ behind code j s
    unfolding behind
    step-close k =
        scan-eq _ (behind code j s)
        (add-one s.more ∙ sym (ap₂ (λ (a b : Bool). cond a (s.more - 1) (cond b (suc s.more) s.more)) (ne_eqb code 64 m) (eq-eqb code 65 k)))
        (sym (ap (λ (b : Bool). cond b j s.outer) (no-left _ (eqb s.more 8) (ne_eqb code 64 m)))) (sym (ne_eqb code 64 m))

    pub step_other : code ≢ 65 → record { more = s.more; outer = s.outer; fresh = false } ≡ behind code j s
    unfolding behind
    step_other k =
        scan-eq _ (behind code j s)
        (sym (ap₂ (λ (a b : Bool). cond a (s.more - 1) (cond b (suc s.more) s.more)) (ne_eqb code 64 m) (ne_eqb code 65 k)))
        (sym (ap (λ (b : Bool). cond b j s.outer) (no-left _ (eqb s.more 8) (ne_eqb code 64 m)))) (sym (ne_eqb code 64 m))

-- a step keeps within its bounds
pub behind-small : (code j n : ℕ) (s : Scan) → Steps code s → s.outer ≤ n → j < n → ((behind code j s).more ≤ 8) × ((behind code j s).outer ≤ n)
unfolding behind
behind-small code j n s S o l = (go (eqb code 64) refl (eqb code 65) refl, out (eqb code 64 && eqb s.more 8))
  where
    go : (a : Bool) → eqb code 64 ≡ a → (b : Bool) → eqb code 65 ≡ b → cond a (s.more - 1) (cond b (suc s.more) s.more) ≤ 8
    go true e b f = omega (arith, S.few)
    go false e true f = let ne : s.more ≢ 8 = S.open-one (eqb-true code 65 f) in omega (arith, S.few)
    go false e false f = S.few

    out : (b : Bool) → cond b j s.outer ≤ n
    out true = omega (arith, l)
    out false = o

-- blocks that are refused are at fault
number-faulty : (bs : List ℕ) → blocks_number bs ≢ 0 → blocks_fault bs ≡ true
unfolding blocks_number
number-faulty bs ne = go (blocks_fault bs) ne
  where
    go : (b : Bool) → ◌≢◌ {A = ℕ} (cond b 16 0) 0 → b ≡ true
    go true h = refl
    go false h = absurd (h refl)

-- ---- the scan
module _ (at : ℕ) (bs : List ℕ) where
  scan-turn : (n j : ℕ) (s : Scan) → j < n → scan_found at bs (n - j) j s ≡ or_else (mark_found at (code_at bs j) j s) (scan_found at bs (n - (j + 1)) (j + 1) (behind (code_at bs j) j s))
  unfolding scan_found
  scan-turn n j s l =
      let q : n - j ≡ suc (n - (j + 1)) = omega arith in
      ap (λ (k : ℕ). scan_found at bs k j s) q ∙ ap (λ (k : ℕ). or_else (mark_found at (code_at bs j) j s) (scan_found at bs (n - (j + 1)) k (behind (code_at bs j) j s))) (sym (add-one j))

  module _ (n j : ℕ) (s : Scan) (so_far : scan_found at bs n 0 start ≡ scan_found at bs (n - j) j s) where
    pub scan-here : (r : Finding) → n ≡ item_count bs → j < n → r ≡ mark_found at (code_at bs j) j s → found_number r ≢ 0 → r ≡ blocks_found at bs
    unfolding blocks_found
    scan-here r c l e ne =
        order-here _ _ _ (e ∙ else-first _ _ (λ z. ne (ap found_number e ∙ z)) ∙ sym (so_far ∙ scan-turn n j s l) ∙ ap (λ (k : ℕ). scan_found at bs k 0 start) c) ne

    pub scan-next : j < n → found_number (mark_found at (code_at bs j) j s) ≡ 0 → scan_found at bs n 0 start ≡ scan_found at bs (n - (j + 1)) (j + 1) (behind (code_at bs j) j s)
    scan-next l z = so_far ∙ scan-turn n j s l ∙ sym (else-next _ _ z)

    module _ (c : n ≡ item_count bs) (end : n ≤ j) where
      scan-end : scan_found at bs (item_count bs) 0 start ≡ scan_found at bs 0 j s
      scan-end = let q : n - j ≡ 0 = omega arith in ap (λ (k : ℕ). scan_found at bs k 0 start) (sym c) ∙ so_far ∙ ap (λ (k : ℕ). scan_found at bs k j s) q

      pub scan-unclosed : (r : Finding) → s.more ≢ 8 → r ≡ found Unclosed s.outer (at + 3 * s.outer) → r ≡ blocks_found at bs
      unfolding blocks_found scan_found number_of
      scan-unclosed r ne e = order-here _ _ _ (pick _ _ _ [] e (ap not (ne_eqb s.more 8 ne)) ∙ sym scan-end) (λ z. let q : ◌≡◌ {A = ℕ} 16 0 = sym (ap found_number e) ∙ z in omega arith)

      scan-clean : s.more ≡ 8 → found_number (scan_found at bs (item_count bs) 0 start) ≡ 0
      unfolding scan_found number_of
      scan-clean h = ap found_number (scan-end ∙ sym (pass _ (found Unclosed s.outer (at + 3 * s.outer)) sound [] (ap not (eq-eqb s.more 8 h)) (no_more sound refl)))

      pub scan-long : (r : Finding) → s.more ≡ 8 → blocks_number bs ≢ 0 → r ≡ found Expansion 0 at → r ≡ blocks_found at bs
      unfolding blocks_found long_found number_of
      scan-long r h ne e =
          order-next _ _ _ (scan-clean h) (order-here _ _ _ (pick _ _ _ [] e (number-faulty bs ne)) (λ z. let q : ◌≡◌ {A = ℕ} 16 0 = sym (ap found_number e) ∙ z in omega arith))

      pub scan_good : (r : Finding) → s.more ≡ 8 → blocks_number bs ≡ 0 → r ≡ sound → r ≡ blocks_found at bs
      unfolding blocks_found
      scan_good r h z e = order-next _ _ _ (scan-clean h) (order-next _ _ _ (long-number at bs ∙ z) (e ∙ order-end))

-- What the two readers have seen, step by step.
use mathlib.Core.Bool.{true}
use mathlib.Core.List.{List, [], ◌∷◌, ◌++◌}
use mathlib.Core.Logic.{◌≢◌, ⊎_elim}
use mathlib.Core.Path.{◌≡◌, refl, sym, ap, ap₂, ◌∙◌}
use Prim.Native.Nat.{ℕ, zero, suc, ◌+◌, ◌-◌, ◌*◌, ◌<◌, ◌≤◌, min}
use native.Mathlib.Omega.{arith}
use native.Mathlib.Nat.{mul_comm}
use lib.ListN.{length}
use borrow.Author.Tests.{lt-ltb, le-ltb}
use Rattle.exact.proofs.Laws.Sum.{split}
use Rattle.blocks.specs.Expansion.{code_at, wire_at, item_count, again, opened, levels, only_level, expansion, faulty, blocks_fault}
use Rattle.blocks.specs.Inner.Spans.{rest, onto, before, Closed, Stands, Seen, Good, Expanded}
use Rattle.blocks.proofs.Laws.Steps.{before-before, before-shut, opened-onto, opened-hollow, rest_plain, rest-open, rest-deep, rest-close, rest_end, rest-done, append-nil, length-append, length-again}

pub cap-add : (a b : ℕ) → min (min a 65537 + min b 65537) 65537 ≡ min (a + b) 65537
cap-add a b = omega arith

pub seen_more : (bs : List ℕ) (j d at size next more : ℕ) → Seen bs j d at size → Stands bs at d next more → Seen bs j d next (min (size + more) 65537)
seen_more bs j d at size next more S T = record {
  holds = S.holds ++ T.holds;
  count = ap₂ (λ (a b : ℕ). min (a + b) 65537) S.count T.count ∙ cap-add (length S.holds) (length T.holds) ∙ ap (λ (k : ℕ). min k 65537) (sym (length-append S.holds T.holds));
  from = omega (arith, S.from, T.moves);
  range = T.range;
  is = S.is ∙ ap (before S.holds) T.is ∙ before-before S.holds T.holds (rest bs next d);
}

pub seen-fault : (bs : List ℕ) (j d at size : ℕ) → Seen bs j d at size → rest bs at d ≡ [] → rest bs j d ≡ []
seen-fault bs j d at size S e = S.is ∙ ap (before S.holds) e

pub seen-close : (bs : List ℕ) (j d at size : ℕ) → Seen bs j d at size → at < item_count bs → code_at bs at ≡ 65 → d < 8 → Closed bs j d (at + 1) size
seen-close bs j d at size S l c h = record {
  holds = S.holds;
  count = S.count;
  moves = omega (arith, S.from);
  range = omega arith;
  is = S.is ∙ ap (before S.holds) (rest-close bs at d l c (λ e. omega arith)) ∙ before-shut S.holds (rest bs (suc at) (suc d)) ∙ ap (λ (k : ℕ). onto S.holds (rest bs k (suc d))) (next at);
}
  where
    next : (a : ℕ) → suc a ≡ a + 1
    next a = omega arith

pub seen_end : (bs : List ℕ) (j d at size : ℕ) → Seen bs j d at size → item_count bs ≤ at → d < 8 → rest bs j d ≡ []
seen_end bs j d at size S l h = seen-fault bs j d at size S (rest_end bs at d l (λ e. omega arith))

-- ---- one item
pub item-plain : (bs : List ℕ) (j d : ℕ) → Good bs j d → code_at bs j ≢ 64 → Stands bs j d (j + 1) 1
item-plain bs j d G c = record {
  holds = j ∷ [];
  count = refl;
  moves = omega arith;
  range = omega (arith, G.range);
  is = rest_plain bs j d G.range c G.not-close ∙ ap (λ (k : ℕ). before (j ∷ []) (rest bs k d)) (next j);
}
  where
    next : (a : ℕ) → suc a ≡ a + 1
    next a = omega arith

pub item-deep : (bs : List ℕ) (j d : ℕ) → Good bs j d → code_at bs j ≡ 64 → d ≡ 0 → rest bs j d ≡ []
item-deep bs j d G c z = rest-deep bs j d G.range c z

module _ (bs : List ℕ) (j d : ℕ) (G : Good bs j d) (c : code_at bs j ≡ 64) (z : d ≢ 0) where
  opens : rest bs j d ≡ opened (wire_at bs j) (rest bs (j + 1) (d - 1))
  opens = rest-open bs j d G.range c z ∙ ap (λ (k : ℕ). opened (wire_at bs j) (rest bs k (d - 1))) (next j)
    where
      next : (a : ℕ) → suc a ≡ a + 1
      next a = omega arith

  pub item-fault : rest bs (j + 1) (d - 1) ≡ [] → rest bs j d ≡ []
  item-fault e = opens ∙ ap (opened (wire_at bs j)) e

  module _ (next size : ℕ) (C : Closed bs (j + 1) (d - 1) next size) where
    same : suc (d - 1) ≡ d
    same = go d z
      where
        go : (d : ℕ) → d ≢ 0 → suc (d - 1) ≡ d
        go zero z = absurd (z refl)
        go (suc d) z = omega arith

    inner : rest bs j d ≡ opened (wire_at bs j) (onto C.holds (rest bs next d))
    inner = opens ∙ ap (opened (wire_at bs j)) C.is ∙ ap (λ (k : ℕ). opened (wire_at bs j) (onto C.holds (rest bs next k))) same

    none-held : (l : List ℕ) → 0 ≡ min (length l) 65537 → l ≡ []
    none-held [] e = refl
    none-held (x ∷ l) e = absurd (omega arith)

    pub item-hollow : size ≡ 0 → rest bs j d ≡ []
    item-hollow e = inner ∙ ap (λ (l : List ℕ). opened (wire_at bs j) (onto l (rest bs next d))) (none-held C.holds (sym e ∙ C.count)) ∙ opened-hollow (wire_at bs j) (rest bs next d)

    cap-mul : (n a : ℕ) → min (min a 65537 * n) 65537 ≡ min (n * a) 65537
    cap-mul zero a = omega arith
    cap-mul (suc n) a = ⊎_elim (λ (h : a < 65537). few h) (λ (h : 65537 ≤ a). many h) (split a 65537)
      where
        few : a < 65537 → min (min a 65537 * suc n) 65537 ≡ min (suc n * a) 65537
        few h = let e : min a 65537 ≡ a = omega arith in ap (λ (k : ℕ). min (k * suc n) 65537) e ∙ ap (λ (k : ℕ). min k 65537) (mul_comm a (suc n))

        many : 65537 ≤ a → min (min a 65537 * suc n) 65537 ≡ min (suc n * a) 65537
        many h = let e : min a 65537 ≡ 65537 = omega arith in ap (λ (k : ℕ). min (k * suc n) 65537) e ∙ omega (arith, mul_comm 65537 n, big n a h)
          where
            big : (n a : ℕ) → 65537 ≤ a → 65537 ≤ suc n * a
            big n a h = omega arith

    pub item-block : size ≢ 0 → Stands bs j d next (min (size * wire_at bs j) 65537)
    item-block ne = record {
      holds = again (wire_at bs j) C.holds;
      count = ap (λ (k : ℕ). min (k * wire_at bs j) 65537) C.count ∙ cap-mul (wire_at bs j) (length C.holds) ∙ ap (λ (k : ℕ). min k 65537) (sym (length-again (wire_at bs j) C.holds));
      moves = omega (arith, C.moves);
      range = C.range;
      is = inner ∙ opened-onto (wire_at bs j) C.holds (rest bs next d) (λ e. ne (C.count ∙ ap (λ (l : List ℕ). min (length l) 65537) e));
    }

-- ---- the whole body
module _ (bs : List ℕ) where
  start : rest bs 0 8 ≡ levels bs (item_count bs) 0 8
  unfolding rest
  start = let z : item_count bs - 0 ≡ item_count bs = omega arith in ap (λ (k : ℕ). levels bs k 0 8) z

  pub whole-fault : rest bs 0 8 ≡ [] → blocks_fault bs ≡ true
  unfolding blocks_fault
  whole-fault e = ap faulty (sym start ∙ e)

  module _ (at size : ℕ) (S : Seen bs 0 8 at size) (l : item_count bs ≤ at) where
    held : levels bs (item_count bs) 0 8 ≡ S.holds ∷ []
    held = sym start ∙ S.is ∙ ap (before S.holds) (rest-done bs at 8 l refl) ∙ ap (λ (k : List ℕ). k ∷ []) (append-nil S.holds)

    pub whole_long : 65536 < size → blocks_fault bs ≡ true
    unfolding blocks_fault
    whole_long h = ap faulty held ∙ lt-ltb 65536 (length S.holds) (omega (arith, S.count))

    pub whole-good : size ≤ 65536 → Expanded bs size
    unfolding blocks_fault expansion
    whole-good h = record {
      good = ap faulty held ∙ le-ltb 65536 (length S.holds) (omega (arith, S.count));
      count = let e : size ≡ length S.holds = omega (arith, S.count) in e ∙ sym (ap (λ (x : List (List ℕ)). length (only_level x)) held);
    }

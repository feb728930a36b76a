-- Why an item is refused, on each way through the code.
use mathlib.Core.Bool.{Bool, true, false, not, ◌&&◌}
use mathlib.Core.List.{List}
use mathlib.Core.Logic.{◌≢◌}
use mathlib.Core.Path.{◌≡◌, refl, ap, ap₂, ◌∙◌}
use Prim.Native.Nat.{ℕ, ◌+◌, ◌*◌, ◌≤◌, ◌<◌}
use lib.Dec.{eqb}
use lib.ListN.{get_or}
use borrow.Author.Tests.{eq-eqb, ne_eqb, le-leb, lt-leb}
use Rattle.blocks.specs.Expansion.{code_at, wire_at}
use Rattle.gates.specs.declared.Reading.{Reading}
use Rattle.gates.specs.Read.{gate_read}
use Rattle.gates.specs.Circuit.{number_of, item_at}
use Rattle.cause.specs.declared.Cause.TheVariants.{Code, Wire, SecondWire, SameWire, SecondByte, Outcome, NoCount, Stray}
use Rattle.cause.specs.Cause.{Finding, found, sound}
use Rattle.cause.proofs.Laws.First.{pick, pass, no_more}
use Rattle.cause_items.specs.Items.{range_found, read_found, item_found}

no-left : (a b : Bool) → a ≡ false → (a && b) ≡ false
no-left a b e = ap (λ (x : Bool). x && b) e

no-right : (a b : Bool) → b ≡ false → (a && b) ≡ false
no-right true b e = e
no-right false b e = refl

-- ---- refused by 3
module _ (byte j code second : ℕ) (r : Finding) where
  pub stray-open : code ≡ 64 → second ≢ 0 → r ≡ found Stray j (byte + 2) → r ≡ range_found byte j code second
  unfolding range_found
  stray-open m k h = pick _ _ _ _ h (ap₂ ◌&&◌ (eq-eqb code 64 m) (ap not (ne_eqb second 0 k)))

  pub no-count : code ≡ 64 → second ≡ 0 → r ≡ found NoCount j (byte + 1) → r ≡ range_found byte j code second
  unfolding range_found
  no-count m k h = pass _ _ _ _ (no-right (eqb code 64) _ (ap not (eq-eqb second 0 k))) (pick _ _ _ _ h (eq-eqb code 64 m))

  module _ (n : code ≢ 64) where
    pub stray-close : code ≡ 65 → second ≢ 0 → r ≡ found Stray j (byte + 2) → r ≡ range_found byte j code second
    unfolding range_found
    stray-close m k h = pass _ _ _ _ (no-left _ _ (ne_eqb code 64 n)) (pass _ _ _ _ (ne_eqb code 64 n) (pick _ _ _ _ h (ap₂ ◌&&◌ (eq-eqb code 65 m) (ap not (ne_eqb second 0 k)))))

    pub stray-wire : code ≡ 65 → second ≡ 0 → r ≡ found Stray j (byte + 1) → r ≡ range_found byte j code second
    unfolding range_found
    stray-wire m k h =
        pass _ _ _ _ (no-left _ _ (ne_eqb code 64 n)) (pass _ _ _ _ (ne_eqb code 64 n) (pass _ _ _ _ (no-right (eqb code 65) _ (ap not (eq-eqb second 0 k))) (pick _ _ _ _ h (eq-eqb code 65 m))))

    module _ (m : code ≢ 65) where
      pub outcome : code ≡ 80 → r ≡ found Outcome j (byte + 2) → r ≡ range_found byte j code second
      unfolding range_found
      outcome k h =
          pass _ _ _ _ (no-left _ _ (ne_eqb code 64 n)) (pass _ _ _ _ (ne_eqb code 64 n) (pass _ _ _ _ (no-left _ _ (ne_eqb code 65 m)) (pass _ _ _ _ (ne_eqb code 65 m) (pick _ _ _ _ h (eq-eqb code 80 k)))))

      pub second-byte : code ≢ 80 → r ≡ found SecondByte j (byte + 2) → r ≡ range_found byte j code second
      unfolding range_found
      second-byte k h =
          pass _ _ _ _ (no-left _ _ (ne_eqb code 64 n)) (pass _ _ _ _ (ne_eqb code 64 n) (pass _ _ _ _ (no-left _ _ (ne_eqb code 65 m)) (pass _ _ _ _ (ne_eqb code 65 m) (pass _ _ _ _ (ne_eqb code 80 k) (pick _ _ _ _ h refl)))))

-- ---- by its number
module _ (byte j width k code wire second : ℕ) (r : Finding) where
  pub code-unknown : k ≡ 7 → r ≡ found Code j byte → r ≡ read_found byte j width k code wire second
  unfolding read_found
  code-unknown m h = pick _ _ _ _ h (eq-eqb k 7 m)

  module _ (n : k ≢ 7) where
    pub first-wire : k ≡ 6 → width ≤ wire → r ≡ found Wire j (byte + 1) → r ≡ read_found byte j width k code wire second
    unfolding read_found
    first-wire m l h = pass _ _ _ _ (ne_eqb k 7 n) (pick _ _ _ _ h (ap₂ ◌&&◌ (eq-eqb k 6 m) (le-leb width wire l)))

    pub second-wire : k ≡ 6 → wire < width → r ≡ found SecondWire j (byte + 2) → r ≡ read_found byte j width k code wire second
    unfolding read_found
    second-wire m l h = pass _ _ _ _ (ne_eqb k 7 n) (pass _ _ _ _ (no-right (eqb k 6) _ (lt-leb width wire l)) (pick _ _ _ _ h (eq-eqb k 6 m)))

    module _ (m : k ≢ 6) where
      pub same-wire : k ≡ 2 → r ≡ found SameWire j (byte + 2) → r ≡ read_found byte j width k code wire second
      unfolding read_found
      same-wire p h = pass _ _ _ _ (ne_eqb k 7 n) (pass _ _ _ _ (no-left _ _ (ne_eqb k 6 m)) (pass _ _ _ _ (ne_eqb k 6 m) (pick _ _ _ _ h (eq-eqb k 2 p))))

      module _ (p : k ≢ 2) where
        pub out_of_range : k ≡ 3 → r ≡ range_found byte j code second → r ≡ read_found byte j width k code wire second
        unfolding read_found
        out_of_range q h = pass _ _ _ _ (ne_eqb k 7 n) (pass _ _ _ _ (no-left _ _ (ne_eqb k 6 m)) (pass _ _ _ _ (ne_eqb k 6 m) (pass _ _ _ _ (ne_eqb k 2 p) (pick _ _ _ _ h (eq-eqb k 3 q)))))

        pub no-fault : k ≢ 3 → r ≡ sound → r ≡ read_found byte j width k code wire second
        unfolding read_found
        no-fault q h = pass _ _ _ _ (ne_eqb k 7 n) (pass _ _ _ _ (no-left _ _ (ne_eqb k 6 m)) (pass _ _ _ _ (ne_eqb k 6 m) (pass _ _ _ _ (ne_eqb k 2 p) (pass _ _ _ _ (ne_eqb k 3 q) (no_more _ h)))))

-- ---- an item, read
pub item-told : (at d width : ℕ) (bs : List ℕ) (j k : ℕ) (g : Reading) (r : Finding) → g ≡ gate_read d (code_at bs j) (wire_at bs j) (get_or bs (3 * j + 2) 0) width → k ≡ number_of g
    → r ≡ read_found (at + 3 * j) j width k (code_at bs j) (wire_at bs j) (get_or bs (3 * j + 2) 0) → r ≡ item_found at d width bs j
unfolding item_found item_at
item-told at d width bs j k g r e n h = h ∙ ap (λ (m : ℕ). read_found (at + 3 * j) j width m (code_at bs j) (wire_at bs j) (get_or bs (3 * j + 2) 0)) (n ∙ ap number_of e)

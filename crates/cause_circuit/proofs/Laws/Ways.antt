-- The first fault of a circuit's body on each way through the code.
use mathlib.Core.Bool.{Bool, true, false, cond, not}
use mathlib.Core.List.{List}
use mathlib.Core.Logic.{◌≢◌}
use mathlib.Core.Path.{◌≡◌, sym, ap, ap₂, ◌∙◌}
use Prim.Native.Nat.{ℕ, ◌+◌, ◌-◌, ◌*◌, ◌/◌, ◌%◌, ◌^◌, ◌≤◌, ◌<◌}
use lib.Dec.{eqb, ltb, leb}
use lib.ListN.{length, take, drop}
use borrow.Author.Tests.{eq-eqb, ne_eqb, lt-ltb, le-ltb, le-leb, lt-leb}
use Rattle.fields.specs.Bytes.{number}
use Rattle.fields.proofs.Laws.Front.{lent-part}
use Rattle.blocks.specs.Expansion.{item_count}
use Rattle.cause.specs.declared.Cause.TheVariants.{Strings, Threes, Many, Wires, Input, Output}
use Rattle.cause.specs.Cause.{Finding, found, sound, found_number, first_below}
use Rattle.cause.proofs.Laws.First.{pick, pass, no_more, order-here, order-next, order-one}
use Rattle.cause_blocks.specs.Blocks.{blocks_found}
use Rattle.cause_items.specs.Items.{item_found}
use Rattle.cause_circuit.specs.Circuit.{head_found, tested_found, circuit_found, record_found}

module _ (from at wat width input output : ℕ) (gs : List ℕ) (r : Finding) where
  pub not-threes : length gs % 3 ≢ 0 → r ≡ found Threes (length gs / 3) (at + 3 * (length gs / 3)) → r ≡ head_found from at wat width input output gs
  unfolding head_found
  not-threes h e = pick _ _ _ _ e (ap not (ne_eqb (length gs % 3) 0 h))

  module _ (threes : length gs % 3 ≡ 0) where
    t1 : not (eqb (length gs % 3) 0) ≡ false
    t1 = ap not (eq-eqb (length gs % 3) 0 threes)

    pub too_many : 4096 < length gs / 3 → r ≡ found Many 4096 (at + 12288) → r ≡ head_found from at wat width input output gs
    unfolding head_found
    too_many h e = pass _ _ _ _ t1 (pick _ _ _ _ e (lt-ltb 4096 (length gs / 3) h))

    module _ (few : length gs / 3 ≤ 4096) where
      t2 : ltb 4096 (length gs / 3) ≡ false
      t2 = le-ltb 4096 (length gs / 3) few

      pub no-wires : width < 1 → r ≡ found Wires 0 wat → r ≡ head_found from at wat width input output gs
      unfolding head_found
      no-wires h e = pass _ _ _ _ t1 (pass _ _ _ _ t2 (pick _ _ _ _ e (lt-ltb width 1 h)))

      module _ (some : 1 ≤ width) where
        t3 : ltb width 1 ≡ false
        t3 = le-ltb width 1 some

        pub many-wires : 31 < width → r ≡ found Wires 0 wat → r ≡ head_found from at wat width input output gs
        unfolding head_found
        many-wires h e = pass _ _ _ _ t1 (pass _ _ _ _ t2 (pass _ _ _ _ t3 (pick _ _ _ _ e (lt-ltb 31 width h))))

        module _ (most : width ≤ 31) where
          t4 : ltb 31 width ≡ false
          t4 = le-ltb 31 width most

          pub input-out : 2 ^ width ≤ input → r ≡ found Input 0 from → r ≡ head_found from at wat width input output gs
          unfolding head_found
          input-out h e = pass _ _ _ _ t1 (pass _ _ _ _ t2 (pass _ _ _ _ t3 (pass _ _ _ _ t4 (pick _ _ _ _ e (le-leb (2 ^ width) input h)))))

          module _ (in-range : input < 2 ^ width) where
            t5 : leb (2 ^ width) input ≡ false
            t5 = lt-leb (2 ^ width) input in-range

            pub output-out : 2 ^ width ≤ output → r ≡ found Output 0 (from + 4) → r ≡ head_found from at wat width input output gs
            unfolding head_found
            output-out h e = pass _ _ _ _ t1 (pass _ _ _ _ t2 (pass _ _ _ _ t3 (pass _ _ _ _ t4 (pass _ _ _ _ t5 (pick _ _ _ _ e (le-leb (2 ^ width) output h))))))

            pub head-sound : output < 2 ^ width → r ≡ sound → r ≡ head_found from at wat width input output gs
            unfolding head_found
            head-sound h e = pass _ _ _ _ t1 (pass _ _ _ _ t2 (pass _ _ _ _ t3 (pass _ _ _ _ t4 (pass _ _ _ _ t5 (pass _ _ _ _ (lt-leb (2 ^ width) output h) (no_more _ e))))))

-- ---- the head, the items, the blocks
module _ (from at wat d width input output : ℕ) (gs : List ℕ) (r : Finding) where
  pub in_head : r ≡ head_found from at wat width input output gs → found_number r ≢ 0 → r ≡ tested_found from at wat d width input output gs
  unfolding tested_found
  in_head e ne = order-here _ _ _ e ne

  module _ (h : found_number (head_found from at wat width input output gs) ≡ 0) where
    pub in-items : r ≡ first_below (item_count gs) (item_found at d width gs) → found_number r ≢ 0 → r ≡ tested_found from at wat d width input output gs
    unfolding tested_found
    in-items e ne = order-next _ _ _ h (order-here _ _ _ e ne)

    pub in_blocks : found_number (first_below (item_count gs) (item_found at d width gs)) ≡ 0 → r ≡ blocks_found at gs → r ≡ tested_found from at wat d width input output gs
    unfolding tested_found
    in_blocks i e = order-next _ _ _ h (order-next _ _ _ i (e ∙ order-one (blocks_found at gs)))

-- ---- a body
chosen : (b t : Bool) (f g r : Finding) → b ≡ t → r ≡ cond t f g → r ≡ cond b f g
chosen b t f g r e h = h ∙ sym (ap (λ (x : Bool). cond x f g) e)

module _ (from wat e width : ℕ) (bs : List ℕ) (r : Finding) where
  pub circuit-short : length bs < 8 → r ≡ found Strings 0 from → r ≡ circuit_found from wat e width bs
  unfolding circuit_found
  circuit-short l h = chosen (ltb (length bs) 8) true (found Strings 0 from) _ r (lt-ltb (length bs) 8 l) h

  pub circuit-tested : 8 ≤ length bs → (i o : ℕ) → i ≡ number 4 bs 0 → o ≡ number 4 bs 4 → r ≡ tested_found from (from + 8) wat e width i o (take (length bs - 8) (drop 8 bs)) → r ≡ circuit_found from wat e width bs
  unfolding circuit_found
  circuit-tested l i o p q h =
      chosen (ltb (length bs) 8) false (found Strings 0 from) _ r (le-ltb (length bs) 8 l) (h ∙ ap (tested_found from (from + 8) wat e width i o) (lent-part bs 8) ∙ ap₂ (λ (x y : ℕ). tested_found from (from + 8) wat e width x y (drop 8 bs)) p q)

  pub record-short : length bs < 4 → r ≡ found Strings 0 from → r ≡ record_found from wat width bs
  unfolding record_found
  record-short l h = chosen (ltb (length bs) 4) true (found Strings 0 from) _ r (lt-ltb (length bs) 4 l) h

  pub record-tested : 4 ≤ length bs → (i : ℕ) → i ≡ number 4 bs 0 → r ≡ tested_found from (from + 4) wat 3 width i 0 (take (length bs - 4) (drop 4 bs)) → r ≡ record_found from wat width bs
  unfolding record_found
  record-tested l i p h =
      chosen (ltb (length bs) 4) false (found Strings 0 from) _ r (le-ltb (length bs) 4 l) (h ∙ ap (tested_found from (from + 4) wat 3 width i 0) (lent-part bs 4) ∙ ap (λ (x : ℕ). tested_found from (from + 4) wat 3 width x 0 (drop 4 bs)) p)

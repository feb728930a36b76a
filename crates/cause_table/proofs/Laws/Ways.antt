-- The first fault of a table's body on each way through the code.
use mathlib.Core.Bool.{Bool, true, false, cond, not}
use mathlib.Core.List.{List, []}
use mathlib.Core.Logic.{◌≢◌}
use mathlib.Core.Path.{◌≡◌, refl, sym, ap, ◌∙◌}
use Prim.Native.Nat.{ℕ, ◌+◌, ◌*◌, ◌^◌, ◌≤◌, ◌<◌}
use native.Mathlib.Omega.{arith}
use lib.Dec.{leb}
use lib.ListN.{length}
use borrow.Author.Tests.{eq-eqb, ne_eqb, lt-ltb, le-ltb}
use Rattle.state.specs.Number.{outside}
use Rattle.body_bytes.specs.Body.{mark_of, phase_of, power_of, turn_of, row_of, tie_count, mask_of, side_of, body_fault}
use Rattle.body_bytes.proofs.Laws.Fault.{turn-high, turn_low, row-tested}
use Rattle.body_read.specs.declared.Reading.{Reading}
use Rattle.body_read.specs.Read.{Reads}
use Rattle.cause.specs.declared.Cause.TheVariants.{TableWidth, Length, ManyTies, ZeroMark, Phase, PowerOut, Turn, Row, Mask, Side, NotNormal}
use Rattle.cause.specs.Cause.{Finding, number_of, found, sound, found_number, first_below}
use Rattle.cause.proofs.Laws.First.{pick, pass, no_more, order-here, order-next, order-one}
use Rattle.cause_table.specs.Table.{size_found, head_found, turn_found, row_found, tie_found, body_found, TableFound}
use Rattle.cause_table.proofs.Laws.Number.{body-number}

-- ---- width, length and tie count
module _ (from wat n : ℕ) (bs : List ℕ) (r : Finding) where
  pub size-wide : 64 < n → r ≡ found TableWidth 0 wat → r ≡ size_found from wat n bs
  unfolding size_found
  size-wide h e = pick _ _ _ _ e (lt-ltb 64 n h)

  module _ (a : n ≤ 64) where
    pub size-short : length bs < 5 + 9 * n → r ≡ found Length 0 (from + length bs) → r ≡ size_found from wat n bs
    unfolding size_found
    size-short h e = pass _ _ _ _ (le-ltb 64 n a) (pick _ _ _ _ e (lt-ltb (length bs) (5 + 9 * n) h))

    module _ (b : 5 + 9 * n ≤ length bs) where
      pub size-ties : n < tie_count n bs → r ≡ found ManyTies 0 (from + (4 + 9 * n)) → r ≡ size_found from wat n bs
      unfolding size_found
      size-ties h e = pass _ _ _ _ (le-ltb 64 n a) (pass _ _ _ _ (le-ltb (length bs) (5 + 9 * n) b) (pick _ _ _ _ e (lt-ltb n (tie_count n bs) h)))

      module _ (c : tie_count n bs ≤ n) where
        pub size-length : length bs ≢ 5 + 9 * n + 9 * tie_count n bs → r ≡ found Length 0 (from + length bs) → r ≡ size_found from wat n bs
        unfolding size_found
        size-length h e = pass _ _ _ _ (le-ltb 64 n a) (pass _ _ _ _ (le-ltb (length bs) (5 + 9 * n) b) (pass _ _ _ _ (le-ltb n (tie_count n bs) c) (pick _ _ _ _ e (ap not (ne_eqb (length bs) (5 + 9 * n + 9 * tie_count n bs) h)))))

        pub size-sound : length bs ≡ 5 + 9 * n + 9 * tie_count n bs → r ≡ sound → r ≡ size_found from wat n bs
        unfolding size_found
        size-sound h e = pass _ _ _ _ (le-ltb 64 n a) (pass _ _ _ _ (le-ltb (length bs) (5 + 9 * n) b) (pass _ _ _ _ (le-ltb n (tie_count n bs) c) (pass _ _ _ _ (ap not (eq-eqb (length bs) (5 + 9 * n + 9 * tie_count n bs) h)) (no_more _ e))))

-- ---- zero mark, phase and power
module _ (from : ℕ) (bs : List ℕ) (r : Finding) where
  pub head-mark : 1 < mark_of bs → r ≡ found ZeroMark 0 from → r ≡ head_found from bs
  unfolding head_found
  head-mark h e = pick _ _ _ _ e (lt-ltb 1 (mark_of bs) h)

  module _ (a : mark_of bs ≤ 1) where
    pub head-phase : 7 < phase_of bs → r ≡ found Phase 0 (from + 1) → r ≡ head_found from bs
    unfolding head_found
    head-phase h e = pass _ _ _ _ (le-ltb 1 (mark_of bs) a) (pick _ _ _ _ e (lt-ltb 7 (phase_of bs) h))

    module _ (b : phase_of bs ≤ 7) where
      pub head-power : outside (power_of bs) ≡ true → r ≡ found PowerOut 0 (from + 2) → r ≡ head_found from bs
      unfolding head_found
      head-power h e = pass _ _ _ _ (le-ltb 1 (mark_of bs) a) (pass _ _ _ _ (le-ltb 7 (phase_of bs) b) (pick _ _ _ _ e h))

      pub head-sound : outside (power_of bs) ≡ false → r ≡ sound → r ≡ head_found from bs
      unfolding head_found
      head-sound h e = pass _ _ _ _ (le-ltb 1 (mark_of bs) a) (pass _ _ _ _ (le-ltb 7 (phase_of bs) b) (pass _ _ _ _ h (no_more _ e)))

-- ---- a turn, a row, a tie
module _ (from : ℕ) (bs : List ℕ) (v : ℕ) (r : Finding) where
  pub turn-out : 3 < turn_of bs v → r ≡ found Turn v (from + (4 + v)) → r ≡ turn_found from bs v
  unfolding turn_found
  turn-out h e = pick _ _ _ _ e (turn-high bs v h)

  pub turn_in : turn_of bs v ≤ 3 → turn_found from bs v ≡ sound
  unfolding turn_found
  turn_in h = sym (pass _ (found Turn v (from + (4 + v))) sound [] (turn_low bs v h) (no_more sound refl))

module _ (from n : ℕ) (bs : List ℕ) (v m : ℕ) (b : Bool) (is : m ≡ row_of n bs v) (t : b ≡ leb (2 ^ n) m) where
  pub row_out : (r : Finding) → b ≡ true → r ≡ found Row v (from + (4 + n + 8 * v)) → r ≡ row_found from n bs v
  unfolding row_found
  row_out r h e = pick _ _ _ _ e (sym (row-tested n bs v m b is t) ∙ h)

  pub row_in : b ≡ false → row_found from n bs v ≡ sound
  unfolding row_found
  row_in h = sym (pass _ (found Row v (from + (4 + n + 8 * v))) sound [] (sym (row-tested n bs v m b is t) ∙ h) (no_more sound refl))

module _ (from n : ℕ) (bs : List ℕ) (j : ℕ) (r : Finding) where
  pub tie-mask : leb (2 ^ n) (mask_of n bs j) ≡ true → r ≡ found Mask j (from + (5 + 9 * n + 9 * j)) → r ≡ tie_found from n bs j
  unfolding tie_found
  tie-mask h e = pick _ _ _ _ e h

  module _ (a : leb (2 ^ n) (mask_of n bs j) ≡ false) where
    pub tie-side : 1 < side_of n bs j → r ≡ found Side j (from + (5 + 9 * n + 9 * j + 8)) → r ≡ tie_found from n bs j
    unfolding tie_found
    tie-side h e = pass _ _ _ _ a (pick _ _ _ _ e (lt-ltb 1 (side_of n bs j) h))

    pub tie-sound : side_of n bs j ≤ 1 → r ≡ sound → r ≡ tie_found from n bs j
    unfolding tie_found
    tie-sound h e = pass _ _ _ _ a (pass _ _ _ _ (le-ltb 1 (side_of n bs j) h) (no_more _ e))

-- ---- the whole body
module _ (from wat n : ℕ) (bs : List ℕ) (r : Finding) where
  pub in_size : r ≡ size_found from wat n bs → found_number r ≢ 0 → r ≡ body_found from wat n bs
  unfolding body_found
  in_size e ne = order-here _ _ _ e ne

  module _ (s : found_number (size_found from wat n bs) ≡ 0) where
    pub in_head : r ≡ head_found from bs → found_number r ≢ 0 → r ≡ body_found from wat n bs
    unfolding body_found
    in_head e ne = order-next _ _ _ s (order-here _ _ _ e ne)

    module _ (h : found_number (head_found from bs) ≡ 0) where
      pub in_turns : r ≡ first_below n (turn_found from bs) → found_number r ≢ 0 → r ≡ body_found from wat n bs
      unfolding body_found
      in_turns e ne = order-next _ _ _ s (order-next _ _ _ h (order-here _ _ _ e ne))

      module _ (a : found_number (first_below n (turn_found from bs)) ≡ 0) where
        pub in_rows : r ≡ first_below n (row_found from n bs) → found_number r ≢ 0 → r ≡ body_found from wat n bs
        unfolding body_found
        in_rows e ne = order-next _ _ _ s (order-next _ _ _ h (order-next _ _ _ a (order-here _ _ _ e ne)))

        pub in-ties : found_number (first_below n (row_found from n bs)) ≡ 0 → r ≡ first_below (tie_count n bs) (tie_found from n bs) → r ≡ body_found from wat n bs
        unfolding body_found
        in-ties b e = order-next _ _ _ s (order-next _ _ _ h (order-next _ _ _ a (order-next _ _ _ b (e ∙ order-one (first_below (tie_count n bs) (tie_found from n bs))))))

-- ---- 11, then 12
module _ (from wat n : ℕ) (bs : List ℕ) (r f : Finding) (e : f ≡ body_found from wat n bs) where
  eleven : (t : Bool) → body_fault n bs ≡ t → found_number f ≡ cond t 11 0
  eleven t h = ap found_number e ∙ body-number from wat n bs ∙ ap (λ (b : Bool). cond b 11 0) h

  pub table-fault : found_number f ≢ 0 → TableFound from wat n bs f
  table-fault ne = record {
    fault = λ h. e;
    broken = λ h no. absurd (ne (eleven false h));
    good = λ h yes. absurd (ne (eleven false h));
    normal = λ z. absurd (ne z);
  }

  module _ (z : found_number f ≡ 0) (g : Reading) (G : Reads n bs g) where
    clear : body_fault n bs ≡ true → ⊥
    clear h = let q : ◌≡◌ {A = ℕ} 11 0 = sym (eleven true h) ∙ z in absurd (omega arith)

    fine : body_fault n bs ≡ false
    fine = go (body_fault n bs) refl
      where
        go : (t : Bool) → body_fault n bs ≡ t → t ≡ false
        go true h = absurd (clear h)
        go false h = refl

    pub table-broken : g.refusal ≢ 0 → r ≡ found NotNormal 0 from → TableFound from wat n bs r
    unfolding number_of
    table-broken ne h = record {
      fault = λ b. absurd (clear b);
      broken = λ b no. h;
      good = λ b yes. absurd (ne (ap (λ (x : Reading). x.refusal) (G.sound b yes)));
      normal = λ k. absurd (let q : ◌≡◌ {A = ℕ} 12 0 = sym (ap found_number h) ∙ k in omega arith);
    }

    pub table-good : g.refusal ≡ 0 → r ≡ sound → TableFound from wat n bs r
    table-good zero h = record {
      fault = λ b. absurd (clear b);
      broken = λ b no. absurd (no (G.normal zero));
      good = λ b yes. h;
      normal = λ k. G.normal zero;
    }

-- The table of a body, number by number: its turns, rows, masks and sides are the bytes' numbers and 0 beyond them, and the slots below the width are live.
use mathlib.Core.Path.{◌≡◌, refl, ap}
use mathlib.Core.Logic.{⊎_elim}
use mathlib.Core.List.{List}
use Prim.Native.Nat.{ℕ, ◌-◌, ◌^◌, ◌≤◌, ◌<◌}
use native.Mathlib.Nat.{lt_of_lt_of_le}
use native.Mathlib.Omega.{arith}
use lib.Count.{count_trailing_zeros}
use lib.ListN.{length}
use lib.Pow.{pow_pos, pow_mono, ones_lt}
use Rattle.exact.specs.declared.Quarter.{Quarter}
use Rattle.exact.proofs.Laws.Sum.{split}
use Rattle.bits.proofs.Laws.First.{first_bit, first_above}
use Rattle.form.specs.Form.{quarter, turn_at, row_at}
use Rattle.ties.specs.Ties.{mask_at, side_at, lead_at}
use Rattle.state.specs.Entry.{turn, row, tie, side, lead, Free}
use Rattle.state.specs.Inner.Entry.{Live}
use Rattle.state.specs.Normal.{InRange}
use Rattle.body_bytes.specs.Body.{phase_of, power_of, turn_of, row_of, tie_count, mask_of, side_of}
use Rattle.body_read.specs.Table.{quarter_of, form_of, ties_of, table_of}
use Rattle.body_read.proofs.Laws.Padded.{length-padded, padded-in, padded-out}
use Rattle.body_bytes.proofs.Laws.Fine.{Fine}

module _ (n : ℕ) (bs : List ℕ) where
  -- ---- of any bytes: how long the lists are, what lies beyond the width and beyond the ties
  pub turns-long : length (table_of n bs).form.turns ≡ 64
  unfolding table_of form_of
  turns-long = length-padded (quarter 0) n (quarter_of bs)

  pub signs-long : length (table_of n bs).form.signs ≡ 64
  unfolding table_of form_of
  signs-long = length-padded 0 n (row_of n bs)

  pub power-is : (table_of n bs).power.0 ≡ power_of bs
  unfolding table_of
  power-is = refl

  pub phase-is : (table_of n bs).form.phase.0 ≡ phase_of bs
  unfolding table_of form_of
  phase-is = refl

  pub live-is : (table_of n bs).live ≡ 2 ^ n - 1
  unfolding table_of
  live-is = refl

  pub live_below : (v : ℕ) → v < n → Live (table_of n bs) v
  unfolding table_of
  live_below v h = first_bit n v h

  pub free-beyond : (v : ℕ) → n ≤ v → Free (table_of n bs) v
  unfolding table_of
  free-beyond v h = first_above n v h

  pub turn-beyond : (v : ℕ) → n ≤ v → turn (table_of n bs) v ≡ 0
  unfolding table_of form_of turn_at
  turn-beyond v h = ap (λ (q : Quarter). q.0) (padded-out (quarter 0) n (quarter_of bs) v h)

  pub row-beyond : (v : ℕ) → n ≤ v → row (table_of n bs) v ≡ 0
  unfolding table_of form_of row_at
  row-beyond v h = padded-out 0 n (row_of n bs) v h

  pub tie-beyond : (j : ℕ) → tie_count n bs ≤ j → tie (table_of n bs) j ≡ 0
  unfolding table_of ties_of mask_at
  tie-beyond j h = padded-out 0 (tie_count n bs) (mask_of n bs) j h

  pub side-beyond : (j : ℕ) → tie_count n bs ≤ j → side (table_of n bs) j ≡ 0
  unfolding table_of ties_of side_at
  side-beyond j h = padded-out 0 (tie_count n bs) (side_of n bs) j h

  -- ---- of a body that is not refused by 11: the bytes' numbers
  module _ (f : Fine n bs) where
    pub turn_is : (v : ℕ) → v < n → turn (table_of n bs) v ≡ turn_of bs v
    unfolding table_of form_of turn_at
    turn_is v h = ap (λ (q : Quarter). q.0) (padded-in (quarter 0) n (quarter_of bs) v h (omega (arith, f.narrow)))

    pub row_is : (v : ℕ) → v < n → row (table_of n bs) v ≡ row_of n bs v
    unfolding table_of form_of row_at
    row_is v h = padded-in 0 n (row_of n bs) v h (omega (arith, f.narrow))

    pub tie-is : (j : ℕ) → j < tie_count n bs → tie (table_of n bs) j ≡ mask_of n bs j
    unfolding table_of ties_of mask_at
    tie-is j h = padded-in 0 (tie_count n bs) (mask_of n bs) j h (omega (arith, f.narrow, f.few))

    pub side-is : (j : ℕ) → j < tie_count n bs → side (table_of n bs) j ≡ side_of n bs j
    unfolding table_of ties_of side_at
    side-is j h = padded-in 0 (tie_count n bs) (side_of n bs) j h (omega (arith, f.narrow, f.few))

    pub lead_is : (j : ℕ) → j < tie_count n bs → lead (table_of n bs) j ≡ count_trailing_zeros 64 (mask_of n bs j)
    unfolding lead_at
    lead_is j h = ap (count_trailing_zeros 64) (tie-is j h)

    -- ---- ranges, at every place
    pub power-range : InRange (table_of n bs).power.0
    unfolding table_of
    power-range = f.power

    pub phase-range : (table_of n bs).form.phase.0 < 8
    unfolding table_of form_of
    phase-range = f.phase

    pub live-range : (table_of n bs).live < 2 ^ 64
    unfolding table_of
    live-range = lt_of_lt_of_le (ones_lt n) (pow_mono f.narrow)

    pub turn-range : (v : ℕ) → turn (table_of n bs) v < 4
    turn-range v =
        ⊎_elim (λ (h : v < n). omega (arith, turn_is v h, f.turn v h)) (λ (h : n ≤ v). omega (arith, turn-beyond v h)) (split v n)

    row_within : (v : ℕ) → row (table_of n bs) v < 2 ^ n
    row_within v =
        ⊎_elim
        (λ (h : v < n). omega (arith, row_is v h, f.row v h))
        (λ (h : n ≤ v). omega (arith, row-beyond v h, pow_pos n))
        (split v n)

    pub row-range : (v : ℕ) → row (table_of n bs) v < 2 ^ 64
    row-range v = lt_of_lt_of_le (row_within v) (pow_mono f.narrow)

    pub side-range : (j : ℕ) → side (table_of n bs) j < 2
    side-range j =
        ⊎_elim
        (λ (h : j < tie_count n bs). omega (arith, side-is j h, f.side j h))
        (λ (h : tie_count n bs ≤ j). omega (arith, side-beyond j h))
        (split j (tie_count n bs))

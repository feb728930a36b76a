-- A table that a body states is normal exactly where the body is, by its bytes.
use mathlib.Core.Bool.{true}
use mathlib.Core.List.{List}
use mathlib.Core.Logic.{◌≢◌, ⊎_elim}
use mathlib.Core.Path.{◌≡◌, refl, sym, ◌∙◌, ap}
use Prim.Native.Nat.{ℕ, ◌^◌, ◌≤◌, ◌<◌}
use native.Mathlib.Nat.{lt_of_lt_of_le}
use native.Mathlib.Omega.{arith}
use lib.Dec.{eqb}
use lib.ListN.{length}
use lib.Pow.{pow_mono}
use borrow.Author.Tests.{eqb-true, eq-eqb}
use Rattle.exact.proofs.Laws.Sum.{split}
use Rattle.bits.specs.Mask.{bit}
use Rattle.bits.proofs.Laws.Bit.{bit-above, bit-of-zero}
use Rattle.bits.proofs.Laws.Lowest.{trailing_at}
use Rattle.form.specs.Form.{sign_at, Proper}
use Rattle.ties.specs.Ties.{Reduced}
use Rattle.state.specs.declared.State.{State}
use Rattle.state.specs.Entry.{turn, row, tie, lead, ties, Free}
use Rattle.state.specs.Normal.{Normal}
use Rattle.body_bytes.specs.Body.{mark_of, tie_count, mask_of, side_of}
use Rattle.body_bytes.proofs.Laws.Fine.{Fine}
use Rattle.body_read.specs.Table.{ties_of, table_of}
use Rattle.body_read.proofs.Laws.Padded.{length-padded}
use Rattle.body_read.proofs.Laws.Table.{turns-long, signs-long, power-is, phase-is, live_below, turn-beyond, row-beyond, tie-beyond, side-beyond, turn_is, row_is, tie-is, lead_is, power-range, phase-range, live-range, turn-range, row-range, side-range}
use Rattle.theorem_whole.specs.Text.{lead_of, NormalBody}

module _ (n : ℕ) (bs : List ℕ) (f : Fine n bs) where
  abbrev T : State
  T = table_of n bs

  count-is : ties T ≡ tie_count n bs
  unfolding table_of ties_of
  count-is = refl

  zero_is : T.zero ≡ eqb (mark_of bs) 1
  unfolding table_of
  zero_is = refl

  up : {j : ℕ} → j < tie_count n bs → j < ties T
  up l = omega (arith, count-is)

  down : {j : ℕ} → j < ties T → j < tie_count n bs
  down l = omega (arith, count-is)

  set : mark_of bs ≡ 1 → T.zero ≡ true
  set e = zero_is ∙ eq-eqb _ _ e

  marked : T.zero ≡ true → mark_of bs ≡ 1
  marked e = eqb-true _ _ (sym zero_is ∙ e)

  -- a lead lies below the width
  lead_low : (j : ℕ) → j < tie_count n bs → mask_of n bs j ≢ 0 → lead_of n bs j < n
  lead_low j l ne = ⊎_elim (λ (q : lead_of n bs j < n). q) (λ (q : n ≤ lead_of n bs j). absurd (omega (arith, at.1, bit-above n (mask_of n bs j) (lead_of n bs j) (f.mask j l) q))) (split (lead_of n bs j) n)
    where
      at : (lead_of n bs j < 64) × (bit (mask_of n bs j) (lead_of n bs j) ≡ 1)
      at = trailing_at 64 (mask_of n bs j) (omega (arith, ne)) (lt_of_lt_of_le (f.mask j l) (pow_mono f.narrow))

  -- ---- from the table to the bytes
  module _ (N : Normal T) where
    full : (j : ℕ) → j < tie_count n bs → mask_of n bs j ≢ 0
    full j l e = N.reduced.full j (up l) (tie-is n bs f j l ∙ e)

    pub to-bytes : NormalBody n bs
    unfolding sign_at
    to-bytes = record {
      full = full;
      rising = λ i j k l. omega (arith, N.reduced.rising i j k (up l), lead_is n bs f i (omega arith), lead_is n bs f j l);
      alone = λ i j k l ne. ap (λ (m : ℕ). bit m (lead_of n bs j)) (sym (tie-is n bs f i k)) ∙ ap (bit (tie T i)) (sym (lead_is n bs f j l)) ∙ N.reduced.alone i j (up k) (up l) ne;
      lead-turn = λ j l. sym (turn_is n bs f (lead_of n bs j) (lead_low j l (full j l))) ∙ ap (turn T) (sym (lead_is n bs f j l)) ∙ N.lead-turn j (up l);
      lead-row = λ j l. sym (row_is n bs f (lead_of n bs j) (lead_low j l (full j l))) ∙ ap (row T) (sym (lead_is n bs f j l)) ∙ N.lead-row j (up l);
      even = λ u v k l. ap (λ (m : ℕ). bit m u) (sym (row_is n bs f v l)) ∙ N.proper.even u v ∙ ap (λ (m : ℕ). bit m v) (row_is n bs f u k);
      own = λ v l. ap (λ (m : ℕ). bit m v) (sym (row_is n bs f v l)) ∙ N.proper.own v;
      zero-power = λ e. sym (power-is n bs) ∙ N.zero-power (set e);
      zero-phase = λ e. sym (phase-is n bs) ∙ N.zero-phase (set e);
      zero-ties = λ e. sym count-is ∙ N.zero-ties (set e);
      zero_turn = λ e v l. sym (turn_is n bs f v l) ∙ N.zero_turn (set e) v;
      zero_row = λ e v l. sym (row_is n bs f v l) ∙ N.zero_row (set e) v;
    }

  -- ---- from the bytes to the table
  module _ (B : NormalBody n bs) where
    low : (v : ℕ) → Free T v → n ≤ v
    low v e = ⊎_elim (λ (q : v < n). absurd (omega (arith, live_below n bs v q, e))) (λ (q : n ≤ v). q) (split v n)

    -- a sign with a slot from n on is none
    row_out : (u v : ℕ) → n ≤ u → bit (row T v) u ≡ 0
    row_out u v q =
        ⊎_elim (λ (l : v < n). bit-above n (row T v) u (omega (arith, row_is n bs f v l, f.row v l)) q)
        (λ (l : n ≤ v). ap (λ (m : ℕ). bit m u) (row-beyond n bs v l) ∙ bit-of-zero u) (split v n)

    row-none : (u v : ℕ) → n ≤ v → bit (row T v) u ≡ 0
    row-none u v q = ap (λ (m : ℕ). bit m u) (row-beyond n bs v q) ∙ bit-of-zero u

    even : (u v : ℕ) → bit (row T v) u ≡ bit (row T u) v
    even u v =
        ⊎_elim
        (λ (k : u < n).
        ⊎_elim (λ (l : v < n). ap (λ (m : ℕ). bit m u) (row_is n bs f v l) ∙ B.even u v k l ∙ ap (λ (m : ℕ). bit m v) (sym (row_is n bs f u k)))
        (λ (l : n ≤ v). row-none u v l ∙ sym (row_out v u l)) (split v n))
        (λ (k : n ≤ u). row_out u v k ∙ sym (row-none v u k)) (split u n)

    own : (v : ℕ) → bit (row T v) v ≡ 0
    own v = ⊎_elim (λ (l : v < n). ap (λ (m : ℕ). bit m v) (row_is n bs f v l) ∙ B.own v l) (λ (l : n ≤ v). row-none v v l) (split v n)

    proper : Proper T.form
    unfolding sign_at
    proper = record {
      turns-are = turns-long n bs;
      signs-are = signs-long n bs;
      phase-range = phase-range n bs f;
      turn-range = turn-range n bs f;
      row-range = row-range n bs f;
      even = even;
      own = own;
    }

    mask-range : (j : ℕ) → tie T j < 2 ^ 64
    mask-range j =
        ⊎_elim (λ (l : j < tie_count n bs). lt_of_lt_of_le (omega (arith, tie-is n bs f j l, f.mask j l)) (pow_mono f.narrow))
        (λ (l : tie_count n bs ≤ j). omega (arith, tie-beyond n bs j l)) (split j (tie_count n bs))

    masks-long : length T.ties.masks ≡ 64
    unfolding table_of ties_of
    masks-long = length-padded 0 (tie_count n bs) (mask_of n bs)

    sides-long : length T.ties.sides ≡ 64
    unfolding table_of ties_of
    sides-long = length-padded 0 (tie_count n bs) (side_of n bs)

    reduced : Reduced T.ties
    reduced = record {
      masks-are = masks-long;
      sides-are = sides-long;
      count-range = omega (arith, count-is, f.few, f.narrow);
      mask-range = mask-range;
      side-range = side-range n bs f;
      full = λ j l e. B.full j (down l) (sym (tie-is n bs f j (down l)) ∙ e);
      rising = λ i j k l. omega (arith, B.rising i j k (down l), lead_is n bs f i (omega (arith, count-is)), lead_is n bs f j (down l));
      alone = λ i j k l ne. ap (λ (m : ℕ). bit m (lead T j)) (tie-is n bs f i (down k)) ∙ ap (bit (mask_of n bs i)) (lead_is n bs f j (down l)) ∙ B.alone i j (down k) (down l) ne;
      unused-mask = λ j l. tie-beyond n bs j (omega (arith, count-is));
      unused-side = λ j l. side-beyond n bs j (omega (arith, count-is));
    }

    free-tie : (j v : ℕ) → Free T v → bit (tie T j) v ≡ 0
    free-tie j v e =
        ⊎_elim (λ (l : j < tie_count n bs). bit-above n (tie T j) v (omega (arith, tie-is n bs f j l, f.mask j l)) (low v e))
        (λ (l : tie_count n bs ≤ j). ap (λ (m : ℕ). bit m v) (tie-beyond n bs j l) ∙ bit-of-zero v) (split j (tie_count n bs))

    pub from_bytes : Normal T
    from_bytes = record {
      power-range = power-range n bs f;
      live-range = live-range n bs f;
      proper = proper;
      reduced = reduced;
      free-turn = λ v e. turn-beyond n bs v (low v e);
      free-row = λ v e. row-beyond n bs v (low v e);
      free-tie = free-tie;
      lead-turn = λ j l. ap (turn T) (lead_is n bs f j (down l)) ∙ turn_is n bs f (lead_of n bs j) (lead_low j (down l) (B.full j (down l))) ∙ B.lead-turn j (down l);
      lead-row = λ j l. ap (row T) (lead_is n bs f j (down l)) ∙ row_is n bs f (lead_of n bs j) (lead_low j (down l) (B.full j (down l))) ∙ B.lead-row j (down l);
      zero-power = λ e. power-is n bs ∙ B.zero-power (marked e);
      zero-phase = λ e. phase-is n bs ∙ B.zero-phase (marked e);
      zero-ties = λ e. count-is ∙ B.zero-ties (marked e);
      zero_turn = λ e v. ⊎_elim (λ (l : v < n). turn_is n bs f v l ∙ B.zero_turn (marked e) v l) (λ (l : n ≤ v). turn-beyond n bs v l) (split v n);
      zero_row = λ e v. ⊎_elim (λ (l : v < n). row_is n bs f v l ∙ B.zero_row (marked e) v l) (λ (l : n ≤ v). row-beyond n bs v l) (split v n);
    }

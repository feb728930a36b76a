-- A packed table is normal: its leads are the ranks of the leads, and every clause is that of the live slots.
use mathlib.Core.Logic.{⊎_elim}
use mathlib.Core.Path.{◌≡◌, refl, sym, ap, ◌∙◌, subst}
use Prim.Native.Nat.{ℕ, ◌-◌, ◌^◌, ◌≤◌, ◌<◌}
use native.Mathlib.Nat.{lt_of_lt_of_le}
use native.Mathlib.Omega.{arith}
use lib.Count.{ones, count_trailing_zeros}
use lib.Pow.{pow_mono, pow_pos}
use Rattle.exact.proofs.Laws.Sum.{split}
use Rattle.bits.specs.Mask.{bit}
use Rattle.bits.proofs.Laws.First.{first_bit}
use Rattle.bits.proofs.Laws.Bit.{bit-one, bit-full}
use Rattle.bits.proofs.Laws.Lowest.{lowest-one}
use Rattle.form.specs.Form.{turn_at, row_at, sign_at, Proper}
use Rattle.form.proofs.Laws.Beyond.{turn-none, row-none}
use Rattle.ties.specs.Ties.{mask_at, lead_at, Reduced}
use Rattle.ties.proofs.Laws.Lead.{lead-lt, lead-bit, lead-below}
use Rattle.state.specs.declared.State.{State}
use Rattle.state.specs.Entry.{ties}
use Rattle.state.specs.Normal.{Normal}
use Rattle.fields.proofs.Laws.Listed.{length-listed}
use Rattle.body_pack.specs.Slot.{rank, slot_at, packed_mask}
use Rattle.body_pack.specs.Packed.{packed_form, packed_ties, packed_table}
use Rattle.body_pack.proofs.Laws.Slot.{ones-rank, rank_mono, rank-above, slot-rank, rank-slot}
use Rattle.body_pack.proofs.Laws.Mask.{packed-bit, packed_lt, packed_above}
use Rattle.body_pack.proofs.Laws.Read.{ones_small, packed_none, turn_at_lem, row-at, turns-long, signs-long, turn-beyond, row-beyond, sign_at_lem, sign-out, sign-beyond, mask_at_lem, side-at}

module _ (t : State) (N : Normal t) where
  -- ---- words
  packed-word : (m : ℕ) → packed_mask t.live m < 2 ^ 64
  packed-word m = lt_of_lt_of_le (packed_lt t.live m) (pow_mono (ones_small t.live N.live-range))

  -- ---- leads
  module _ (j : ℕ) (l : j < ties t) where
    lead-live : bit t.live (lead_at t.ties j) ≡ 1
    lead-live = bit-one t.live (lead_at t.ties j) (λ z. omega (arith, lead-bit t.ties N.reduced j l, N.free-tie j (lead_at t.ties j) z))

    lead-rank : rank t.live (lead_at t.ties j) < ones t.live
    lead-rank = omega (arith, rank-above t.live (lead_at t.ties j) 64 lead-live (lead-lt t.ties N.reduced j l), ones-rank t.live N.live-range)

    lead-slot : slot_at t.live (rank t.live (lead_at t.ties j)) ≡ lead_at t.ties j
    lead-slot = slot-rank t.live (lead_at t.ties j) (lead-lt t.ties N.reduced j l) lead-live

    -- a packed mask has at the lead's rank what the mask has at the lead
    lead-packed-bit : (m : ℕ) → bit (packed_mask t.live m) (rank t.live (lead_at t.ties j)) ≡ bit m (lead_at t.ties j)
    lead-packed-bit m = packed-bit t.live m (rank t.live (lead_at t.ties j)) lead-rank ∙ ap (bit m) lead-slot

    lead-under : (u : ℕ) → u < rank t.live (lead_at t.ties j) → slot_at t.live u < lead_at t.ties j
    lead-under u k =
        ⊎_elim
        (λ (q : slot_at t.live u < lead_at t.ties j). q)
        (λ (q : lead_at t.ties j ≤ slot_at t.live u).
        absurd (omega (arith, rank_mono t.live (lead_at t.ties j) (slot_at t.live u) q, rank-slot t.live N.live-range u (omega (arith, lead-rank)))))
        (split (slot_at t.live u) (lead_at t.ties j))

    lead-packed : lead_at (packed_ties t.live t.ties) j ≡ rank t.live (lead_at t.ties j)
    unfolding lead_at
    lead-packed =
        ap (count_trailing_zeros 64) (mask_at_lem t.live t.ties N.reduced.masks-are j)
        ∙ lowest-one (packed_mask t.live (mask_at t.ties j)) (rank t.live (lead_at t.ties j)) (packed-word (mask_at t.ties j))
        (lead-packed-bit (mask_at t.ties j) ∙ lead-bit t.ties N.reduced j l)
        (λ u k.
        packed-bit t.live (mask_at t.ties j) u (omega (arith, lead-rank))
        ∙ lead-below t.ties N.reduced j (slot_at t.live u) (lead-under u k))

    -- at the packed lead stands what stood at the lead
    at-lead : (m : ℕ) → bit (packed_mask t.live m) (lead_at (packed_ties t.live t.ties) j) ≡ bit m (lead_at t.ties j)
    at-lead m = ap (bit (packed_mask t.live m)) lead-packed ∙ lead-packed-bit m

    lead_low : lead_at (packed_ties t.live t.ties) j < 64
    lead_low = omega (arith, lead-packed, lead-rank, ones_small t.live N.live-range)

    slot-of-lead : slot_at t.live (lead_at (packed_ties t.live t.ties) j) ≡ lead_at t.ties j
    slot-of-lead = ap (slot_at t.live) lead-packed ∙ lead-slot

  -- ---- ties
  mask-bit : (i v : ℕ) → bit (mask_at (packed_ties t.live t.ties) i) v ≡ bit (packed_mask t.live (mask_at t.ties i)) v
  mask-bit i v = ap (λ (m : ℕ). bit m v) (mask_at_lem t.live t.ties N.reduced.masks-are i)

  pub packed-reduced : Reduced (packed_ties t.live t.ties)
  unfolding packed_ties
  packed-reduced = record {
    masks-are = length-listed 64 _;
    sides-are = N.reduced.sides-are;
    count-range = N.reduced.count-range;
    mask-range = λ j. rw (mask_at_lem t.live t.ties N.reduced.masks-are j) (packed-word (mask_at t.ties j));
    side-range = λ j. omega (arith, side-at t.live t.ties N.reduced.masks-are j, N.reduced.side-range j);
    full = λ j l. bit-full _ (lead_at (packed_ties t.live t.ties) j) (mask-bit j _ ∙ at-lead j l (mask_at t.ties j) ∙ lead-bit t.ties N.reduced j l);
    rising = λ i j k l.
        omega (
          arith,
          lead-packed i (omega arith),
          lead-packed j l,
          rank-above t.live (lead_at t.ties i) (lead_at t.ties j) (lead-live i (omega arith)) (N.reduced.rising i j k l),
        );
    alone = λ i j k l ne. mask-bit i _ ∙ at-lead j l (mask_at t.ties i) ∙ N.reduced.alone i j k l ne;
    unused-mask = λ j l. mask_at_lem t.live t.ties N.reduced.masks-are j ∙ ap (packed_mask t.live) (N.reduced.unused-mask j l) ∙ packed_none t.live;
    unused-side = λ j l. side-at t.live t.ties N.reduced.masks-are j ∙ N.reduced.unused-side j l;
  }

  -- ---- the form
  -- what holds of every number of the form, and of 0, holds of every number of the packed one
  turn-all : (P : ℕ → Type 0) → P 0 → ((v : ℕ) → P (turn_at t.form v)) → (i : ℕ) → P (turn_at (packed_form t.live t.form) i)
  turn-all P z h i =
      ⊎_elim
      (λ (l : i < 64). subst P (sym (turn_at_lem t.live t.form i l)) (h (slot_at t.live i)))
      (λ (l : 64 ≤ i). subst P (sym (turn-none (packed_form t.live t.form) (turns-long t.live t.form) i l)) z)
      (split i 64)

  row-all : (P : ℕ → Type 0) → P 0 → ((v : ℕ) → P (packed_mask t.live (row_at t.form v))) → (i : ℕ) → P (row_at (packed_form t.live t.form) i)
  row-all P z h i =
      ⊎_elim
      (λ (l : i < 64). subst P (sym (row-at t.live t.form i l)) (h (slot_at t.live i)))
      (λ (l : 64 ≤ i). subst P (sym (row-none (packed_form t.live t.form) (signs-long t.live t.form) i l)) z)
      (split i 64)

  sign-even : (i j : ℕ) → sign_at (packed_form t.live t.form) i j ≡ sign_at (packed_form t.live t.form) j i
  sign-even i j =
      ⊎_elim
      (λ (li : i < ones t.live).
      ⊎_elim
      (λ (lj : j < ones t.live).
      sign_at_lem t.live t.form N.live-range i j li lj
      ∙ N.proper.even (slot_at t.live i) (slot_at t.live j)
      ∙ sym (sign_at_lem t.live t.form N.live-range j i lj li))
      (λ (lj : ones t.live ≤ j). beyond j lj)
      (split j (ones t.live)))
      (λ (li : ones t.live ≤ i). sym (beyond-of i li))
      (split i (ones t.live))
    where
      beyond : (v : ℕ) → ones t.live ≤ v → sign_at (packed_form t.live t.form) i v ≡ sign_at (packed_form t.live t.form) v i
      beyond v l = sign-beyond t.live t.form N.live-range N.proper.signs-are i v l ∙ sym (sign-out t.live t.form N.live-range N.proper.signs-are v i l)

      beyond-of : (v : ℕ) → ones t.live ≤ v → sign_at (packed_form t.live t.form) j v ≡ sign_at (packed_form t.live t.form) v j
      beyond-of v l = sign-beyond t.live t.form N.live-range N.proper.signs-are j v l ∙ sym (sign-out t.live t.form N.live-range N.proper.signs-are v j l)

  sign-own : (i : ℕ) → sign_at (packed_form t.live t.form) i i ≡ 0
  sign-own i =
      ⊎_elim
      (λ (l : i < ones t.live). sign_at_lem t.live t.form N.live-range i i l l ∙ N.proper.own (slot_at t.live i))
      (λ (l : ones t.live ≤ i). sign-beyond t.live t.form N.live-range N.proper.signs-are i i l)
      (split i (ones t.live))

  same-phase : (packed_form t.live t.form).phase.0 ≡ t.form.phase.0
  unfolding packed_form
  same-phase = refl

  count_same : ties t ≡ (packed_ties t.live t.ties).count
  unfolding packed_ties
  count_same = refl

  same_count : (j : ℕ) → j < (packed_ties t.live t.ties).count → j < ties t
  same_count j l = omega (arith, count_same)

  pub packed-proper : Proper (packed_form t.live t.form)
  packed-proper = record {
    turns-are = turns-long t.live t.form;
    signs-are = signs-long t.live t.form;
    phase-range = omega (arith, same-phase, N.proper.phase-range);
    turn-range = turn-all (λ (q : ℕ). q < 4) (omega arith) N.proper.turn-range;
    row-range = row-all (λ (m : ℕ). m < 2 ^ 64) (omega arith) (λ v. packed-word (row_at t.form v));
    even = sign-even;
    own = sign-own;
  }

  -- ---- the table
  -- a slot that is free in the packed table is beyond the live ones
  free-beyond : (i : ℕ) → bit (2 ^ ones t.live - 1) i ≡ 0 → ones t.live ≤ i
  free-beyond i e =
      ⊎_elim
      (λ (l : i < ones t.live). absurd (omega (arith, first_bit (ones t.live) i l)))
      (λ (l : ones t.live ≤ i). l)
      (split i (ones t.live))

  live_small : 2 ^ ones t.live - 1 < 2 ^ 64
  live_small =
      let p : 2 ^ ones t.live ≤ 2 ^ 64 = pow_mono (ones_small t.live N.live-range) in
      omega (arith, pow_pos (ones t.live))

  lead-turn : (j : ℕ) → j < ties t → turn_at (packed_form t.live t.form) (lead_at (packed_ties t.live t.ties) j) ≡ 0
  lead-turn j l =
      turn_at_lem t.live t.form (lead_at (packed_ties t.live t.ties) j) (lead_low j l) ∙ ap (turn_at t.form) (slot-of-lead j l) ∙ N.lead-turn j l

  lead-row : (j : ℕ) → j < ties t → row_at (packed_form t.live t.form) (lead_at (packed_ties t.live t.ties) j) ≡ 0
  lead-row j l =
      row-at t.live t.form (lead_at (packed_ties t.live t.ties) j) (lead_low j l)
      ∙ ap (packed_mask t.live) (ap (row_at t.form) (slot-of-lead j l) ∙ N.lead-row j l)
      ∙ packed_none t.live

  -- "packs a table's live bits in rising order": what it leaves is a normal table
  pub packed-normal : Normal (packed_table t)
  unfolding packed_table
  packed-normal = record {
    power-range = N.power-range;
    live-range = live_small;
    proper = packed-proper;
    reduced = packed-reduced;
    free-turn = λ v free. turn-beyond t.live t.form N.live-range N.proper.turns-are v (free-beyond v free);
    free-row = λ v free. row-beyond t.live t.form N.live-range N.proper.signs-are v (free-beyond v free);
    free-tie = λ j v free. mask-bit j v ∙ packed_above t.live (mask_at t.ties j) v (free-beyond v free);
    lead-turn = λ j l. lead-turn j (same_count j l);
    lead-row = λ j l. lead-row j (same_count j l);
    zero-power = N.zero-power;
    zero-phase = λ z. same-phase ∙ N.zero-phase z;
    zero-ties = λ z. sym count_same ∙ N.zero-ties z;
    zero_turn = λ z. turn-all (λ (q : ℕ). q ≡ 0) refl (N.zero_turn z);
    zero_row = λ z. row-all (λ (m : ℕ). m ≡ 0) refl (λ v. ap (packed_mask t.live) (N.zero_row z v) ∙ packed_none t.live);
  }

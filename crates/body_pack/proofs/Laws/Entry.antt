-- A packed table has the same entries, its bits renumbered: sum by sum and tie by tie.
use mathlib.Core.Bool.{Bool, false, cond}
use mathlib.Core.Logic.{⊎_elim}
use mathlib.Core.Path.{◌≡◌, refl, sym, ap, ap₂, ◌∙◌}
use Prim.Native.Nat.{ℕ, zero, suc, ◌+◌, ◌*◌, ◌%◌, ◌≤◌, ◌<◌}
use native.Mathlib.Omega.{arith}
use lib.Count.{ones}
use lib.Dec.{eqb}
use Rattle.exact.specs.Amount.{none, some}
use Rattle.exact.proofs.Laws.Sum.{split}
use Rattle.bits.specs.Mask.{bit, parity}
use Rattle.bits.proofs.Laws.First.{first_bit}
use Rattle.bits.proofs.Laws.Bit.{bit-lt, bit-above, bit-inside}
use Rattle.form.specs.Form.{phase, turn_at, sign_at}
use Rattle.form.specs.Inner.Phase.{phase_at}
use Rattle.ties.specs.Ties.{mask_at, held}
use Rattle.state.specs.declared.State.{State}
use Rattle.state.specs.Entry.{ties, entry}
use Rattle.state.specs.Normal.{Normal, Assigns}
use Rattle.state.proofs.Laws.Entry.{turns-form}
use Rattle.body_pack.specs.Slot.{rank, slot_at}
use Rattle.body_pack.specs.Packed.{packed_form, packed_ties, packed_table, unpacked}
use Rattle.body_pack.proofs.Laws.Slot.{slot-rank}
use Rattle.body_pack.proofs.Laws.Read.{ones_small, slot-beyond, turn_at_lem, turn-beyond, sign_at_lem, sign-beyond, mask_at_lem, side-at}
use Rattle.body_pack.proofs.Laws.Sum.{sum-packed, packed-parity, pairs-packed}

module _ (t : State) (N : Normal t) where
  module _ (y : ℕ → ℕ) where
    held-packed : (k : ℕ) → held (packed_ties t.live t.ties) k y ≡ held t.ties k (unpacked t.live y)
    unfolding held
    held-packed zero = refl
    held-packed (suc k) =
        ap₂ (λ (b h : Bool). cond b h false)
        (ap₂ eqb
        (ap (λ (m : ℕ). parity m y) (mask_at_lem t.live t.ties N.reduced.masks-are k) ∙ packed-parity t.live N.live-range y (mask_at t.ties k))
        (side-at t.live t.ties N.reduced.masks-are k))
        (held-packed k)

    phase-packed : phase_at (packed_form t.live t.form) y ≡ phase_at t.form (unpacked t.live y)
    unfolding phase_at phase packed_form
    phase-packed =
        ap₂ (λ (p q : ℕ). (t.form.phase.0 + 2 * p + 4 * q) % 8)
        (sum-packed t.live N.live-range y (turn_at (packed_form t.live t.form)) (turn_at t.form)
        (λ i l. turn_at_lem t.live t.form i (omega (arith, ones_small t.live N.live-range)))
        (turn-beyond t.live t.form N.live-range N.proper.turns-are))
        (pairs-packed t.live N.live-range y (sign_at (packed_form t.live t.form)) (sign_at t.form) (sign_at_lem t.live t.form N.live-range)
        (sign-beyond t.live t.form N.live-range N.proper.signs-are))

    -- "packs a table's live bits in rising order": the entry at an assignment of the packed bits
    pub packed-entry : entry (packed_table t) y ≡ entry t (unpacked t.live y)
    unfolding entry packed_table packed_ties
    packed-entry =
        ap₂ (λ (b : Bool) (c : ℕ). cond t.zero none (cond b (some t.power.0 c) none)) (held-packed (ties t))
        (turns-form (packed_table t) y ∙ phase-packed ∙ sym (turns-form t (unpacked t.live y)))

    -- which is one of the live bits
    pub unpacked-assigns : Assigns (packed_table t) y → Assigns t (unpacked t.live y)
    unfolding unpacked
    unpacked-assigns A = record {
      small = λ v. digit (bit t.live v) (y (rank t.live v)) (bit-lt t.live v) (A.small (rank t.live v));
      within = λ v free. ap (λ (b : ℕ). b * y (rank t.live v)) free ∙ omega arith;
    }
      where
        digit : (a b : ℕ) → a < 2 → b < 2 → a * b < 2
        digit zero b h l = omega arith
        digit (suc zero) b h l = omega arith
        digit (suc (suc a)) b h l = absurd (omega arith)

  -- and each assignment of the live bits is such a one
  module _ (x : ℕ → ℕ) (A : Assigns t x) where
    pub slots-assign : Assigns (packed_table t) (λ i. x (slot_at t.live i))
    unfolding packed_table
    slots-assign = record {
      small = λ i. A.small (slot_at t.live i);
      within = λ i free.
          ⊎_elim
          (λ (l : i < ones t.live). absurd (omega (arith, first_bit (ones t.live) i l)))
          (λ (l : ones t.live ≤ i). ap x (slot-beyond t.live i N.live-range l) ∙ A.within 64 (bit-above 64 t.live 64 N.live-range (omega arith)))
          (split i (ones t.live));
    }

    pub unpacked-slots : (v : ℕ) → unpacked t.live (λ i. x (slot_at t.live i)) v ≡ x v
    unfolding unpacked
    unpacked-slots v = go (bit t.live v) refl (bit-lt t.live v)
      where
        go : (b : ℕ) → bit t.live v ≡ b → b < 2 → b * x (slot_at t.live (rank t.live v)) ≡ x v
        go zero e l = omega (arith, A.within v e)
        go (suc zero) e l = omega (arith, ap x (slot-rank t.live v (bit-inside t.live v N.live-range e) e))
        go (suc (suc b)) e l = absurd (omega arith)

-- A normal table whose live slots are the lowest is its own packed table, and its body is read off slot by slot.
use mathlib.Core.Logic.{⊎_elim}
use mathlib.Core.Path.{◌≡◌, refl, sym, ap, ◌∙◌}
use Prim.Native.Nat.{ℕ, ◌-◌, ◌^◌, ◌≤◌, ◌<◌}
use native.Mathlib.Omega.{arith}
use lib.Count.{ones}
use Rattle.exact.proofs.Laws.Sum.{split}
use Rattle.form.specs.Inner.Move.{Changed}
use Rattle.form.specs.Form.{quarter, turn_at, row_at}
use Rattle.form.proofs.Laws.Beyond.{turn-none, row-none}
use Rattle.ties.specs.Ties.{mask_at}
use Rattle.ties.proofs.Laws.Lead.{reduced-eq}
use Rattle.state.specs.declared.State.{State}
use Rattle.state.specs.Normal.{Normal}
use Rattle.state.proofs.Laws.First.{free-from, row_low, tie-low}
use Rattle.body_pack.specs.Slot.{slot_at, packed_mask}
use Rattle.body_pack.specs.Packed.{packed_ties, packed_table}
use Rattle.body_fields.specs.Inner.Fields.{plain_bytes}
use Rattle.body_write.specs.Body.{body_bytes}
use Rattle.body_pack.proofs.Laws.Packed.{turn_packed, row_packed, form-done}
use Rattle.body_pack.proofs.Laws.Read.{mask_at_lem, side-at, slot-beyond}
use Rattle.body_write.proofs.Laws.First.{ones-first, slot-first, packed-first, body-first}
use Rattle.body_pack.proofs.Laws.Normal.{packed-reduced}

module _ (t : State) (N : Normal t) (n : ℕ) (l : n ≤ 64) (e : t.live ≡ 2 ^ n - 1) where
  -- its body, slot by slot
  pub body_same : body_bytes t ≡ plain_bytes n t
  body_same = body-first t n l e (λ v k. row_low t N n e v) (λ j k. tie-low t N n e j)

  -- ---- the packed table is the table
  ones_is : ones t.live ≡ n
  ones_is = ap ones e ∙ ones-first n

  slot_same : (i : ℕ) → i < n → slot_at t.live i ≡ i
  slot_same i k = ap (λ (m : ℕ). slot_at m i) e ∙ slot-first n i l k

  mask-same : (m : ℕ) → m < 2 ^ n → packed_mask t.live m ≡ m
  mask-same m k = ap (λ (x : ℕ). packed_mask x m) e ∙ packed-first n m l k

  slot-none : (i : ℕ) → n ≤ i → slot_at t.live i ≡ 64
  slot-none i k = slot-beyond t.live i N.live-range (omega (arith, ones_is))

  turn-same : (i : ℕ) → turn_at t.form i ≡ turn_at t.form (slot_at t.live i)
  turn-same i =
      ⊎_elim
      (λ (k : i < n). ap (turn_at t.form) (sym (slot_same i k)))
      (λ (k : n ≤ i). N.free-turn i (free-from t N n e i k) ∙ sym (ap (turn_at t.form) (slot-none i k) ∙ turn-none t.form N.proper.turns-are 64 (omega arith)))
      (split i n)

  row_same : (i : ℕ) → row_at t.form i ≡ packed_mask t.live (row_at t.form (slot_at t.live i))
  row_same i =
      sym (mask-same (row_at t.form i) (row_low t N n e i))
      ∙ ap (packed_mask t.live)
      (⊎_elim
      (λ (k : i < n). ap (row_at t.form) (sym (slot_same i k)))
      (λ (k : n ≤ i). N.free-row i (free-from t N n e i k) ∙ sym (ap (row_at t.form) (slot-none i k) ∙ row-none t.form N.proper.signs-are 64 (omega arith)))
      (split i n))

  form-same : Changed (turn_packed t.live t.form) (row_packed t.live t.form) 64 t.form t.form
  unfolding turn_at row_at
  form-same = record {
    phase = refl;
    turns = record { long = refl; done = λ j k. ap quarter (turn-same j); rest = λ j k. refl };
    signs = record { long = refl; done = λ j k. row_same j; rest = λ j k. refl };
  }

  count_same : (packed_ties t.live t.ties).count ≡ t.ties.count
  unfolding packed_ties
  count_same = refl

  ties-same : packed_ties t.live t.ties ≡ t.ties
  ties-same =
      reduced-eq (packed_ties t.live t.ties) t.ties (packed-reduced t N) N.reduced count_same
      (λ j. mask_at_lem t.live t.ties N.reduced.masks-are j ∙ mask-same (mask_at t.ties j) (tie-low t N n e j))
      (side-at t.live t.ties N.reduced.masks-are)

  pub packed-same : packed_table t ≡ t
  unfolding packed_table
  packed-same = λ i. record {
    zero = t.zero;
    power = t.power;
    live = (ap (λ (k : ℕ). 2 ^ k - 1) ones_is ∙ sym e) i;
    form = sym (form-done t.live t.form t.form 64 N.proper.turns-are N.proper.signs-are refl form-same) i;
    ties = ties-same i;
  }

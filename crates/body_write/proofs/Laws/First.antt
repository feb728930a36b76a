-- The lowest n slots live: each is its own rank, packing changes nothing, and the body is read off slot by slot.
use mathlib.Core.List.{List}
use mathlib.Core.Path.{◌≡◌, refl, sym, ap, ap₂, ◌∙◌, subst}
use Prim.Native.Nat.{ℕ, zero, suc, ◌-◌, ◌^◌, ◌≤◌, ◌<◌}
use native.Mathlib.Omega.{arith}
use lib.Count.{ones}
use lib.Pow.{pow_pos}
use Rattle.bits.specs.Mask.{bit}
use Rattle.bits.proofs.Laws.First.{first_bit}
use Rattle.bits.proofs.Laws.Bit.{bit-ext}
use Rattle.bits.proofs.Laws.Parity.{ones-total}
use Rattle.state.specs.declared.State.{State}
use Rattle.state.specs.Entry.{turn, row, tie, side, ties}
use Rattle.body_pack.specs.Slot.{rank, slot_at, packed_mask}
use Rattle.body_fields.specs.Fields.{field_bytes}
use Rattle.body_fields.specs.Inner.Fields.{plain_bytes}
use Rattle.body_write.specs.Body.{body_bytes}
use Rattle.body_pack.proofs.Laws.Slot.{rank-none, rank-more, slot-rank}
use Rattle.body_pack.proofs.Laws.Mask.{packed-bit, packed_lt}
use Rattle.body_write.proofs.Laws.Body.{fields-ext}

rank-first : (n v : ℕ) → v ≤ n → rank (2 ^ n - 1) v ≡ v
rank-first n zero l = rank-none (2 ^ n - 1)
rank-first n (suc v) l = omega (arith, rank-more (2 ^ n - 1) v, rank-first n v (omega arith), first_bit n v l)

pub ones-first : (n : ℕ) → ones (2 ^ n - 1) ≡ n
ones-first n = ones-total n (2 ^ n - 1) (omega (arith, pow_pos n)) ∙ rank-first n n (omega arith)

pub slot-first : (n i : ℕ) → n ≤ 64 → i < n → slot_at (2 ^ n - 1) i ≡ i
slot-first n i h l =
    ap (slot_at (2 ^ n - 1)) (sym (rank-first n i (omega arith))) ∙ slot-rank (2 ^ n - 1) i (omega arith) (first_bit n i l)

pub packed-first : (n m : ℕ) → n ≤ 64 → m < 2 ^ n → packed_mask (2 ^ n - 1) m ≡ m
packed-first n m h k =
    bit-ext n (packed_mask (2 ^ n - 1) m) m (subst (λ (j : ℕ). packed_mask (2 ^ n - 1) m < 2 ^ j) (ones-first n) (packed_lt (2 ^ n - 1) m)) k
    (λ v l. packed-bit (2 ^ n - 1) m v (omega (arith, ones-first n)) ∙ ap (bit m) (slot-first n v h l))

-- the body of a table whose live slots are the lowest
pub body-first : (t : State) (n : ℕ) → n ≤ 64 → t.live ≡ 2 ^ n - 1 → ((v : ℕ) → v < n → row t v < 2 ^ n) → ((j : ℕ) → j < ties t → tie t j < 2 ^ n)
    → body_bytes t ≡ plain_bytes n t
unfolding body_bytes plain_bytes
body-first t n h e hr ht =
    ap₂ packed e (ap ones e ∙ ones-first n)
    ∙ fields-ext t.zero t.form.phase.0 t.power.0 n _ _ _ _ (ties t) _ _ _ _
    (λ i l. ap (turn t) (slot-first n i h l))
    (λ i l. ap (λ (v : ℕ). packed_mask (2 ^ n - 1) (row t v)) (slot-first n i h l) ∙ packed-first n (row t i) h (hr i l))
    (λ j l. packed-first n (tie t j) h (ht j l))
    (λ j l. refl)
  where
    -- the body by the live mask and the number of its slots
    packed : ℕ → ℕ → List ℕ
    packed live k =
        field_bytes t.zero t.form.phase.0 t.power.0 k (λ i. turn t (slot_at live i)) (λ i. packed_mask live (row t (slot_at live i))) (ties t)
        (λ j. packed_mask live (tie t j)) (side t)

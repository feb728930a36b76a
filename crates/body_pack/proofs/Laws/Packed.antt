-- Packed forms and tables: what stands where, as lists changed element by element.
use mathlib.Core.Path.{◌≡◌, refl, sym, ap, ◌∙◌, subst}
use Prim.Native.Nat.{ℕ, zero, suc, ◌-◌, ◌*◌, ◌^◌, ◌<◌}
use native.Mathlib.Nat.{pow-suc}
use native.Mathlib.Omega.{arith}
use lib.Count.{ones}
use lib.Pow.{pow_pos}
use lib.ListN.{length, get_or-eq_default}
use Rattle.exact.specs.Sum.{total}
use Rattle.exact.proofs.Laws.Sum.{total_ext}
use Rattle.form.specs.declared.Form.{Form}
use Rattle.form.specs.Form.{quarter, turn_at, row_at}
use Rattle.form.specs.Inner.Move.{Changed}
use Rattle.form.proofs.Laws.Changed.{changed-unique}
use Rattle.ties.specs.declared.Ties.{Ties}
use Rattle.state.specs.declared.State.{State}
use Rattle.fields.proofs.Laws.Listed.{length-listed, listed_at, listed-beyond}
use Rattle.body_pack.specs.Slot.{slot_at, packed_mask}
use Rattle.body_pack.specs.Packed.{packed_form, packed_ties, packed_table}
use Rattle.body_pack.proofs.Laws.Slot.{slot-live}

-- ---- forms
-- what stands at slot j, of the form f
abbrev pub turn_packed : ℕ → Form → ℕ → ℕ → ℕ
turn_packed live f j t = turn_at f (slot_at live j)

abbrev pub row_packed : ℕ → Form → ℕ → ℕ → ℕ
row_packed live f j row = packed_mask live (row_at f (slot_at live j))

form-packed : (live : ℕ) (f : Form) → length f.turns ≡ 64 → length f.signs ≡ 64 → Changed (turn_packed live f) (row_packed live f) 64 f (packed_form live f)
unfolding packed_form
form-packed live f lt ls = record {
  phase = refl;
  turns = record {
    long = length-listed 64 _ ∙ sym lt;
    done = λ j h. listed_at (quarter 0) 64 _ j h;
    rest = λ j h. listed-beyond (quarter 0) 64 _ j h ∙ sym (get_or-eq_default f.turns (quarter 0) (omega arith));
  };
  signs = record {
    long = length-listed 64 _ ∙ sym ls;
    done = λ j h. listed_at 0 64 _ j h;
    rest = λ j h. listed-beyond 0 64 _ j h ∙ sym (get_or-eq_default f.signs 0 (omega arith));
  };
}

pub form-done : (live : ℕ) (f g : Form) (j : ℕ) → length f.turns ≡ 64 → length f.signs ≡ 64 → j ≡ 64 → Changed (turn_packed live f) (row_packed live f) j f g
    → g ≡ packed_form live f
form-done live f g j lt ls e c =
    changed-unique (turn_packed live f) (row_packed live f) f g (packed_form live f) lt ls (subst (λ (n : ℕ). Changed (turn_packed live f) (row_packed live f) n f g) e c) (form-packed live f lt ls)

-- ---- tables
full : (n : ℕ) → total n (λ i. 1 * 2 ^ i) ≡ 2 ^ n - 1
unfolding total
full zero = refl
full (suc n) = omega (arith, full n, pow-suc 2 n, pow_pos n)

packed-live : (live : ℕ) → live < 2 ^ 64 → packed_mask live live ≡ 2 ^ ones live - 1
unfolding packed_mask
packed-live live h = total_ext (ones live) _ _ (λ i l. ap (λ (b : ℕ). b * 2 ^ i) (slot-live live h i l)) ∙ full (ones live)

pub table_done : (t : State) (live : ℕ) (f : Form) (s : Ties) → t.live < 2 ^ 64 → live ≡ packed_mask t.live t.live → f ≡ packed_form t.live t.form → s ≡ packed_ties t.live t.ties
    → ◌≡◌ {A = State} (record { zero = t.zero; power = t.power; live = live; form = f; ties = s }) (packed_table t)
unfolding packed_table
table_done t live f s h el ef es = λ i. record { zero = t.zero; power = t.power; live = (el ∙ packed-live t.live h) i; form = ef i; ties = es i }

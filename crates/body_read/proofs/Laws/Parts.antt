-- Form, ties and table of a body, put together from their parts.
use mathlib.Core.Path.{◌≡◌}
use mathlib.Core.List.{List}
use Prim.Native.Nat.{ℕ, ◌-◌, ◌^◌}
use lib.Dec.{eqb}
use lib.IntN.{ℤ}
use Rattle.exact.specs.declared.Quarter.{Quarter}
use Rattle.form.specs.Form.{quarter}
use Rattle.form.specs.declared.Form.{Form}
use Rattle.ties.specs.declared.Ties.{Ties}
use Rattle.state.specs.declared.State.{State}
use Rattle.body_bytes.specs.Body.{mark_of, phase_of, power_of, row_of, tie_count, mask_of, side_of}
use Rattle.body_read.specs.Table.{quarter_of, padded, form_of, ties_of, table_of}

module _ (n : ℕ) (bs : List ℕ) where
  pub form-is : (c : ℕ) (turns : List Quarter) (signs : List ℕ) → c ≡ phase_of bs → turns ≡ padded (quarter 0) n (quarter_of bs) → signs ≡ padded 0 n (row_of n bs)
      → ◌≡◌ {A = Form} (record { phase = record { 0 = c }; turns = turns; signs = signs }) (form_of n bs)
  unfolding form_of
  form-is c turns signs p t s = λ i. record { phase = record { 0 = p i }; turns = t i; signs = s i }

  pub ties-are : (k : ℕ) (masks sides : List ℕ) → k ≡ tie_count n bs → masks ≡ padded 0 (tie_count n bs) (mask_of n bs) → sides ≡ padded 0 (tie_count n bs) (side_of n bs)
      → ◌≡◌ {A = Ties} (record { count = k; masks = masks; sides = sides }) (ties_of n bs)
  unfolding ties_of
  ties-are k masks sides c m s = λ i. record { count = c i; masks = m i; sides = s i }

  pub table_is : (z : ℕ) (power : ℤ) (live : ℕ) (form : Form) (ties : Ties)
      → z ≡ mark_of bs → power ≡ power_of bs → live ≡ 2 ^ n - 1 → form ≡ form_of n bs → ties ≡ ties_of n bs
      → ◌≡◌ {A = State} (record { zero = eqb z 1; power = record { 0 = power }; live = live; form = form; ties = ties }) (table_of n bs)
  unfolding table_of
  table_is z power live form ties m p l f t = λ i. record { zero = eqb (m i) 1; power = record { 0 = p i }; live = l i; form = f i; ties = t i }

-- Form, ties, state and labels of lent bytes, put together from their parts.
use mathlib.Core.List.{List}
use mathlib.Core.Path.{◌≡◌}
use Prim.Native.Nat.{ℕ}
use lib.Dec.{eqb}
use lib.IntN.{ℤ}
use Rattle.exact.specs.declared.Label.{Label}
use Rattle.exact.specs.declared.Quarter.{Quarter}
use Rattle.fields.specs.Listed.{listed}
use Rattle.form.specs.declared.Form.{Form}
use Rattle.ties.specs.declared.Ties.{Ties}
use Rattle.state.specs.declared.State.{State}
use Rattle.labels.specs.declared.Labels.{Labels}
use Rattle.body_bytes.specs.Body.{mark_of, phase_of, power_of}
use Rattle.image.specs.Inner.Stated.{live_of, turn_of, row_of, count_of, mask_of, side_of, label_of, form_of, ties_of, state_of, labels_of}

module _ (bs : List ℕ) where
  pub form-is : (c : ℕ) (turns : List Quarter) (signs : List ℕ) → c ≡ phase_of bs → turns ≡ listed 64 (turn_of bs) → signs ≡ listed 64 (row_of bs)
      → ◌≡◌ {A = Form} (record { phase = record { 0 = c }; turns = turns; signs = signs }) (form_of bs)
  unfolding form_of
  form-is c turns signs p t s = λ i. record { phase = record { 0 = p i }; turns = t i; signs = s i }

  pub ties-are : (k : ℕ) (masks sides : List ℕ) → k ≡ count_of bs → masks ≡ listed 64 (mask_of bs) → sides ≡ listed 64 (side_of bs)
      → ◌≡◌ {A = Ties} (record { count = k; masks = masks; sides = sides }) (ties_of bs)
  unfolding ties_of
  ties-are k masks sides c m s = λ i. record { count = c i; masks = m i; sides = s i }

  pub state-is : (z : ℕ) (power : ℤ) (live : ℕ) (form : Form) (ties : Ties)
      → z ≡ mark_of bs → power ≡ power_of bs → live ≡ live_of bs → form ≡ form_of bs → ties ≡ ties_of bs
      → ◌≡◌ {A = State} (record { zero = eqb z 1; power = record { 0 = power }; live = live; form = form; ties = ties }) (state_of bs)
  unfolding state_of
  state-is z power live form ties m p l f t = λ i. record { zero = eqb (m i) 1; power = record { 0 = p i }; live = l i; form = f i; ties = t i }

  pub labels-are : (of : List Label) → of ≡ listed 64 (label_of bs) → ◌≡◌ {A = Labels} (record { of = of }) (labels_of bs)
  unfolding labels_of
  labels-are of e = λ i. record { of = e i }

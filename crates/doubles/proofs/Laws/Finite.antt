-- The two doubles of an amount are numbers: neither is a NaN.
use mathlib.Core.Path.{◌≡◌, sym, subst}
use mathlib.Core.List.{List, [], ◌∷◌}
use mathlib.Core.Bool.{Bool, true, false, not, cond}
use Prim.Native.Nat.{◌+◌, ◌/◌, ◌%◌, ◌<◌}
use native.Mathlib.Omega.{arith}
use lib.IntN.{ℤ, pos, negsuc, pred_ℤ}
use lib.Dec.{T, eqb}
use lib.Ieee.{Float, nan, inf, fin, minus, neg, is_nan}
use Rattle.exact.specs.declared.Amount.{Amount}
use Rattle.exact.specs.declared.Amount.TheVariants.{Zero as NoAmount, Some}
use Rattle.doubles.specs.Power.{root_top, root_power}
use Rattle.doubles.specs.Parts.{plus_zero, clamped}
use Rattle.doubles.specs.Answer.{Value, answer, parts_of, answer_of}
use Rattle.doubles.proofs.Laws.Only.{one-two, values_of}
use Rattle.doubles.proofs.Laws.Turns.{Sum, none, one-r, less-r, one-h, less-h, real-turns, imaginary-turns}

abbrev pub IsNumber : Float → Type 0
IsNumber x = T (not (is_nan x))

root-number : (z : ℤ) → IsNumber (root_power z)
unfolding root_power is_nan
root-number (pos n) = go (eqb (n % 2) 0)
  where
    go : (t : Bool) → IsNumber (cond t (fin false 1 (pos (n / 2))) (fin false root_top (minus (n / 2) 52)))
    go true = tt
    go false = tt
root-number (negsuc n) = go (eqb (n % 2) 0)
  where
    go : (t : Bool) → IsNumber (cond t (fin false root_top (negsuc (n / 2 + 52))) (fin false 1 (negsuc (n / 2))))
    go true = tt
    go false = tt

neg-number : (x : Float) → IsNumber x → IsNumber (neg x)
unfolding neg is_nan
neg-number nan h = h
neg-number (inf s) h = tt
neg-number (fin s m e) h = tt

zero_number : IsNumber plus_zero
unfolding is_nan
zero_number = tt

sum_number : (r h x : Float) (a b : ℤ) → Sum r h a b x → IsNumber r → IsNumber h → IsNumber x
sum_number r h _ _ _ none f g = zero_number
sum_number r h _ _ _ one-r f g = f
sum_number r h _ _ _ less-r f g = neg-number r f
sum_number r h _ _ _ one-h f g = g
sum_number r h _ _ _ less-h f g = neg-number h g

heads : (x y u v : Float) → ◌≡◌ {A = List Float} (x ∷ y ∷ []) (u ∷ v ∷ []) → (x ≡ u) × (y ≡ v)
heads x y u v e = (cc, cc)

pub numbers : (a : Amount) (x y : Float) → answer (Value x y) ≡ answer_of a → IsNumber x × IsNumber y
unfolding answer answer_of parts_of
numbers NoAmount x y e = absurd (one-two _ _ _ (sym (values_of _ _ e)))
numbers (Some s c) x y e =
    let r = root_power (clamped s.0) in
    let h = root_power (pred_ℤ (clamped s.0)) in
    let p = c.0 % 8 in
    let l : p < 8 = omega arith in
    let f = root-number (clamped s.0) in
    let g = root-number (pred_ℤ (clamped s.0)) in
    let t = heads x y _ _ (values_of _ _ e) in
    (subst IsNumber (sym t.0) (sum_number r h _ _ _ (real-turns p r h l) f g), subst IsNumber (sym t.1) (sum_number r h _ _ _ (imaginary-turns p r h l) f g))

-- What each arm of the code answers is what the definition gives at its phase.
use mathlib.Core.Path.{◌≡◌, sym, ap, ◌∙◌}
use mathlib.Core.List.{[], ◌∷◌}
use Prim.Native.Nat.{ℕ, ◌-◌, ◌%◌, ◌≤◌}
use native.Mathlib.Omega.{arith}
use lib.IntN.{ℤ, pred_ℤ}
use lib.Ieee.{Float}
use Rattle.doubles.specs.Power.{root_power}
use Rattle.doubles.specs.Inner.Steps.{stepped, raised}
use Rattle.doubles.specs.Parts.{real_part, imaginary_part, clamped}
use Rattle.doubles.specs.Answer.{Value, answer, parts_of}
use Rattle.doubles.proofs.Laws.Stepped.{stepped-at}
use Rattle.doubles.proofs.Laws.Raised.{raised-in, held_at, pred-at}

whole : (s : ℤ) → stepped (raised s) ≡ root_power (clamped s)
whole s = stepped-at (clamped s) (raised s) (held_at s) (omega (arith, raised-in s))

less : (s : ℤ) → stepped (raised s - 1) ≡ root_power (pred_ℤ (clamped s))
less s = stepped-at (pred_ℤ (clamped s)) (raised s - 1) (pred-at (clamped s) (raised s) (held_at s) (omega (arith, raised-in s))) (omega (arith, raised-in s))

-- one arm: the phase is n, and r and h are the two sizes
pub arm : (s : ℤ) (p n u : ℕ) (r h : Float) → u ≡ raised s → r ≡ stepped u → h ≡ stepped (u - 1) → p % 8 ≡ n
    → answer (Value (real_part n r h) (imaginary_part n r h)) ≡ parts_of s p
unfolding answer parts_of
arm s p n u r h eu er eh ep =
    let ar : r ≡ root_power (clamped s) = er ∙ ap stepped eu ∙ whole s in
    let ah : h ≡ root_power (pred_ℤ (clamped s)) = eh ∙ ap (λ (k : ℕ). stepped (k - 1)) eu ∙ less s in
    λ i. record {
      number = 0;
      values = real_part (sym ep i) (ar i) (ah i) ∷ imaginary_part (sym ep i) (ar i) (ah i) ∷ [];
    }

-- what is left of eight phases (`omega` splits no more than six inequalities)
pub last-phase : (p : ℕ) → (p % 8 ≡ 0 → ⊥) → (p % 8 ≡ 1 → ⊥) → (p % 8 ≡ 2 → ⊥) → (p % 8 ≡ 3 → ⊥) → (p % 8 ≡ 4 → ⊥) → (p % 8 ≡ 5 → ⊥) → (p % 8 ≡ 6 → ⊥) → p % 8 ≡ 7
last-phase p a b c d e f g = upper (p % 8) (omega arith) (lower (p % 8) a b c) d e f g
  where
    lower : (q : ℕ) → (q ≡ 0 → ⊥) → (q ≡ 1 → ⊥) → (q ≡ 2 → ⊥) → 3 ≤ q
    lower q a b c = omega arith

    upper : (q : ℕ) → q ≤ 7 → 3 ≤ q → (q ≡ 3 → ⊥) → (q ≡ 4 → ⊥) → (q ≡ 5 → ⊥) → (q ≡ 6 → ⊥) → q ≡ 7
    upper q h l d e f g = omega arith

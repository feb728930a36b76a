-- What is told on each way through the code, case by case of the path sum.
use mathlib.Core.Path.{◌≡◌, refl, sym, ap, ◌∙◌}
use Prim.Native.Nat.{ℕ}
use native.Mathlib.Omega.{arith}
use lib.IntN.{pos}
use Rattle.std.specs.Prelude.{Result, Ok, Err}
use Rattle.exact.specs.Code.{code_of, refusal_in}
use Rattle.exact.specs.declared.Refusal.{Refusal}
use Rattle.exact.specs.declared.Power.{Power}
use Rattle.path_sum.specs.declared.Four.{Four}
use Rattle.path_sum.specs.declared.PathSum.{PathSum}
use Rattle.told_paths.specs.Told.{Five, five, SumTold}

-- the cases differ
which : Result PathSum Refusal → ℕ
which (Err k) = 0
which (Ok s) = 1

apart : (k : Refusal) (s : PathSum) → Err k ≡ Ok s → ⊥
unfolding which
apart k s e = let q : ◌≡◌ {A = ℕ} 0 1 = ap which e in omega (arith, q)

-- the numbers that a case holds
shown : Result PathSum Refusal → Five
shown (Err k) = five (pos 0) (pos 0) (pos 0) (pos 0) (pos 0)
shown (Ok s) = five s.four.c0 s.four.c1 s.four.c2 s.four.c3 s.power.0

module _ (r : Result PathSum Refusal) (t : Five) where
  pub sum-refused : (k : Refusal) (n : ℕ) → n ≡ code_of k → r ≡ Err k → SumTold r t n t
  sum-refused k n g e = record {
    number = g ∙ sym (ap refusal_in e);
    kept = λ j q. refl;
    given = λ f s q. absurd (apart k (record { four = f; power = s }) (sym e ∙ q));
  }

  pub sum-given : (s : PathSum) (u : Five) → r ≡ Ok s → u ≡ five s.four.c0 s.four.c1 s.four.c2 s.four.c3 s.power.0 → SumTold r t 0 u
  unfolding shown
  sum-given s u e g = record {
    number = sym (ap refusal_in e);
    kept = λ k q. absurd (apart k s (sym q ∙ e));
    given = λ h v q. g ∙ ap shown (sym e ∙ q);
  }

-- An answer that keeps its promise, told: case by case of the answer.
use mathlib.Core.Bool.{Bool, true, false}
use mathlib.Core.List.{List}
use mathlib.Core.Path.{sym, ◌∙◌, subst}
use Prim.Native.Nat.{ℕ}
use native.Mathlib.Omega.{arith}
use Rattle.std.specs.Prelude.{Result, Ok, Err}
use Rattle.exact.specs.declared.Refusal.{Refusal}
use Rattle.tableau.specs.Check.{Checked}
use Rattle.tableau.specs.Pair.{Written, Made}
use Rattle.told_tableau.specs.Told.{VerdictTold, PairTold}
use Rattle.told_tableau.specs.Inner.Tells.{TellsVerdict, TellsPair}

pub verdict-told : (e width : ℕ) (bs masks : List ℕ) (h : ℕ) (v : Result Bool Refusal) (before n after : ℕ) → Checked e width bs masks h v → TellsVerdict v before n after → VerdictTold e width bs masks h before n after
verdict-told e width bs masks h (Err k) before n after a t = record {
  number = t.0 ∙ a.number;
  kept = λ ne. t.1;
  flag = λ z. absurd (a.verdict z);
  yes = λ z. absurd (a.verdict z);
  no = λ z. absurd (a.verdict z);
}
verdict-told e width bs masks h (Ok true) before n after a t = record {
  number = t.0 ∙ a.number;
  kept = λ ne. absurd (ne (sym a.number));
  flag = λ z. omega (arith, t.1);
  yes = λ z k. a.verdict z;
  no = λ z k. absurd (omega (arith, t.1, k));
}
verdict-told e width bs masks h (Ok false) before n after a t = record {
  number = t.0 ∙ a.number;
  kept = λ ne. absurd (ne (sym a.number));
  flag = λ z. omega (arith, t.1);
  yes = λ z k. absurd (omega (arith, t.1, k));
  no = λ z k. a.verdict z;
}

pub pair-told : (e width : ℕ) (bs before : List ℕ) (p : Result ℕ Refusal) (signs n : ℕ) (after : List ℕ) (h : ℕ) → Made e width bs before p after → TellsPair p signs n h → PairTold e width bs before signs n after h
pair-told e width bs before (Err k) signs n after h a t = record {
  number = t.0 ∙ a.number;
  kept = λ ne. (a.kept ne, t.1);
  written = λ z. absurd (a.written z);
}
pair-told e width bs before (Ok s) signs n after h a t = record {
  number = t.0 ∙ a.number;
  kept = λ ne. absurd (ne (sym a.number));
  written = λ z. subst (λ (m : ℕ). Written e width bs before m after) (sym t.1) (a.written z);
}

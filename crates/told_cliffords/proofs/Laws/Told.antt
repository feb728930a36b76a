-- An answer that keeps its promise, told: case by case of the answer.
use mathlib.Core.Path.{sym, ◌∙◌, subst}
use Prim.Native.Nat.{ℕ, ◌<◌}
use Rattle.std.specs.Prelude.{Result, Ok, Err}
use Rattle.exact.specs.declared.Refusal.{Refusal}
use Rattle.cliffords.specs.Element.{Answers}
use Rattle.told_cliffords.specs.Told.{ElementTold}
use Rattle.told_cliffords.specs.Inner.Tells.{Tells}

pub told : (refusal : ℕ) (P : ℕ → Type 0) (e : Result ℕ Refusal) (before n after : ℕ) → Answers refusal P e → Tells e before n after → ElementTold refusal P before n after
told refusal P (Err k) before n after a t =
    record {
      number = t.0 ∙ a.refusal;
      kept = λ ne. t.1;
      element = λ z. absurd (a.value z);
      given = λ z. absurd (a.value z);
    }
told refusal P (Ok k) before n after a t =
    record {
      number = t.0 ∙ a.refusal;
      kept = λ ne. absurd (ne (sym a.refusal));
      element = λ z. subst (λ (m : ℕ). m < 24) (sym t.1) (a.value z).0;
      given = λ z. subst P (sym t.1) (a.value z).1;
    }

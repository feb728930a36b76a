-- An answer whose refusal is handed on as a number by `map_err`, told: case by case.
use mathlib.Core.Path.{◌≡◌, ap, subst}
use Prim.Native.Nat.{ℕ}
use Rattle.std.specs.Prelude.{Result, Ok, Err}
use Rattle.std.specs.Result.{MatchResult, IsErrAnd}
use Rattle.exact.specs.Code.{code_of}
use Rattle.exact.specs.declared.Amount.{Amount}
use Rattle.exact.specs.declared.Chance.{Chance}
use Rattle.exact.specs.declared.Refusal.{Refusal}
use Rattle.told.specs.Told.{numbered, Told, AnswerTold, Odds, ChanceTold}

by-number : {A : Type 0} (r : Result A Refusal) (s : Result A ℕ) → MatchResult r (λ x. s ≡ Ok x) (λ e. IsErrAnd s (λ k. k ≡ code_of e)) → s ≡ numbered r
by-number (Ok x) s h = h
by-number (Err e) (Ok x) h = absurd h
by-number (Err e) (Err n) h = ap Err h

pub answer-numbered : (r : Result Amount Refusal) (s : Result Amount ℕ) (t u : Told) (n : ℕ) → MatchResult r (λ x. s ≡ Ok x) (λ e. IsErrAnd s (λ k. k ≡ code_of e)) → AnswerTold s t n u → AnswerTold (numbered r) t n u
answer-numbered r s t u n h = subst (λ (a : Result Amount ℕ). AnswerTold a t n u) (by-number r s h)

pub chance-numbered : (r : Result Chance Refusal) (s : Result Chance ℕ) (t u : Odds) (n : ℕ) → MatchResult r (λ x. s ≡ Ok x) (λ e. IsErrAnd s (λ k. k ≡ code_of e)) → ChanceTold s t n u → ChanceTold (numbered r) t n u
chance-numbered r s t u n h = subst (λ (a : Result Chance ℕ). ChanceTold a t n u) (by-number r s h)

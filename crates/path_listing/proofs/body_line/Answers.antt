-- `body_line` meets its contract: a table's line with what both engines answered; any other body has none.
use mathlib.Core.Path.{◌≡◌, sym, ap, ◌∙◌}
use Prim.Native.Nat.{ℕ}
use Rattle.std.specs.Prelude.{Result, Ok, Err}
use Rattle.std.specs.Result.{MatchResult, IsErrAnd}
use Rattle.exact.specs.Code.{code_of}
use Rattle.exact.specs.declared.Refusal.{Refusal}
use Rattle.path_sum.specs.declared.PathSum.{PathSum}
use Rattle.path_lines.specs.Lines.{path_line}
use Rattle.book_bodies.specs.declared.Said.{Said}
use Rattle.lines_words.proofs.Laws.Writer.{lays-text}
use Rattle.path_listing.specs.Listing.{numbered, body_text}
use Rattle.path_listing.proofs.Laws.Sofar.{lined, silent}
use Rattle.path_listing.proofs.body_line.Goals as goal

-- a refusal is handed on by its number
by-number : (r : Result PathSum Refusal) (s : Result PathSum ℕ) → MatchResult r (λ x. s ≡ Ok x) (λ e. IsErrAnd s (λ n. n ≡ code_of e)) → s ≡ numbered r
by-number (Ok x) s h = h
by-number (Err e) (Ok x) h = absurd h
by-number (Err e) (Err n) h = ap Err h

pub returns-in-Refused : goal.returns-in-Refused
returns-in-Refused c = silent _ _ _ (ap lined c.in-Refused.is)

pub returns-in-Circuit : goal.returns-in-Circuit
returns-in-Circuit c = silent _ _ _ (ap lined c.in-Circuit.is)

pub returns-in-Record : goal.returns-in-Record
returns-in-Record c = silent _ _ _ (ap lined c.in-Record.is)

pub returns-in-Whole : goal.returns-in-Whole
unfolding body_text
returns-in-Whole c =
    let m = c.map_err-paths in
    let e = ap (λ (r : Result PathSum ℕ). path_line c.args.j r c.away-summed.result) (by-number c.sum.result m.result m.ensures.cases) in
    record {
      halves = record { paths = c.sum.result; summed = c.away-summed.result };
      answers = λ _. record { paths = c.sum.ensures; summed = c.away-summed.ensures };
      lays = λ _. lays-text (e ∙ sym (ap (λ (s : Said). body_text c.args.j s (record { paths = c.sum.result; summed = c.away-summed.result })) c.in-Whole.is)) c.path_line.ensures;
    }

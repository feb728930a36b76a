-- `number` meets its contract: a number below ten is its digit, any other has the digits of a tenth of it, then its last one.
use native.Mathlib.Omega.{arith}
use borrow.Author.Rules.{rules}
use mathlib.Core.Path.{◌≡◌, sym, ap, ◌∙◌}
use mathlib.Core.List.{[], ◌∷◌}
use Prim.Native.Nat.{ℕ, ◌+◌, ◌%◌, ◌≤◌, ◌<◌}
use lib.ListN.{length}
use Rattle.lines_words.specs.Overlay.{top}
use Rattle.lines_words.specs.Text.{digits}
use Rattle.lines_words.proofs.Laws.Digits.{digits-one, digits_more}
use Rattle.lines_words.proofs.Laws.Writer.{lays_more, lays-text, lays-from}
use Rattle.lines_words.proofs.Text.+number.Goals.{then-n-ge10, else-n-ge10}
use Rattle.lines_words.proofs.Text.+number.Goals as goal

-- the last digit of a number below ten is all of it
low : (n : ℕ) → n < 10 → (48 + n % 10) ∷ [] ≡ digits n
low n h = ap (λ (d : ℕ). d ∷ []) (omega arith) ∙ sym (digits-one n h)

pub returns : goal.returns
returns t c =
    let n = c.args.n in
    let h : length c.args.self.now.area.now ≤ top = search rules in
    elim c.if-n-ge10.branch [
      | then-n-ge10 w ↦ lays-text (sym (digits_more n w.if-n-ge10.true)) (lays_more h w.number.ensures (lays-from w.self-is c.byte.ensures))
      | else-n-ge10 w ↦ lays-text (low n w.if-n-ge10.false) (lays-from w.self-is c.byte.ensures)
    ]

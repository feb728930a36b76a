-- `signed` meets its contract: the test decides the text, and the number is read back from its bits.
use mathlib.Core.Bool.{true, false}
use mathlib.Core.Path.{◌≡◌, sym, ap, ◌∙◌, subst}
use borrow.Author.Rules.{rules}
use Prim.Native.Nat.{◌≤◌}
use lib.IntN.{ℤ, pos, nat_abs}
use lib.ListN.{length}
use lib.Signed.{lt_z}
use mir.Syntax.{w32}
use mir.ValLaws.{to_z-of_z}
use Rattle.lines_words.specs.Overlay.{top}
use Rattle.lines_words.specs.Text.{letters, digits}
use Rattle.lines_words.proofs.Laws.Signed.{text-below, text-above}
use Rattle.lines_words.proofs.Laws.Writer.{lays_more, lays-text, lays-from}
use Rattle.lines_words.proofs.Text.signed.Goals.{then-n-lt0, else-n-lt0}
use Rattle.lines_words.proofs.Text.signed.Goals as goal

pub returns : goal.returns
unfolding letters
returns c =
    let n = c.args.n in
    let h : length c.args.self.now.area.now ≤ top = search rules in
    let e = to_z-of_z w32 n c.ranges.n in
    let size = ap digits (c.size.ensures ∙ ap nat_abs e) in
    elim c.if-n-lt0.branch [
      | then-n-lt0 w ↦
          lays-text (sym (text-below n (subst (λ (z : ℤ). lt_z z (pos 0) ≡ true) e w.if-n-lt0.true)))
          (lays_more h w.word.ensures (lays-from w.self-is (lays-text size c.number.ensures)))
      | else-n-lt0 w ↦
          lays-text (size ∙ sym (text-above n (subst (λ (z : ℤ). lt_z z (pos 0) ≡ false) e w.if-n-lt0.false))) (lays-from w.self-is c.number.ensures)
    ]

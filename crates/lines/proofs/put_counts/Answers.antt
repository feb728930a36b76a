-- `lines::put_counts` meets its contract: the case that the match found is the definition's.
use mathlib.Core.Path.{sym, ap}
use Prim.Native.Nat.{◌≤◌}
use borrow.Author.Rules.{rules}
use lib.ListN.{length}
use Rattle.lines_words.specs.Overlay.{top}
use Rattle.lines_words.specs.Text.{letters}
use Rattle.lines.specs.Lines.{counts_text}
use Rattle.lines_words.proofs.Laws.Writer.{lays_more, lays-text}
use Rattle.lines.proofs.put_counts.Goals as goal

pub returns-in-Zero : goal.returns-in-Zero
unfolding counts_text letters
returns-in-Zero c =
    let h : length c.args.text.now.area.now ≤ top = search rules in
    lays-text (sym (ap (counts_text c.args.live c.args.ties) c.in-Zero.is))
    (lays_more h c.number.ensures c.word.ensures)

pub returns-in-Some : goal.returns-in-Some
unfolding counts_text letters
returns-in-Some c =
    let h : length c.args.text.now.area.now ≤ top = search rules in
    lays-text (sym (ap (counts_text c.args.live c.args.ties) c.in-Some.is))
    (lays_more h (lays_more h (lays_more h c.number.ensures c.word.ensures) c.number-in-Some.ensures) c.word-in-Some.ensures)

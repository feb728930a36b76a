-- `lines::put_amount` meets its contract: the case that the match found is the definition's, and the power is read back from its bits.
use mathlib.Core.Path.{sym, ap}
use Prim.Native.Nat.{◌≤◌}
use borrow.Author.Rules.{rules}
use lib.ListN.{length}
use mir.Syntax.{w32}
use mir.ValLaws.{to_z-of_z}
use Rattle.lines_words.specs.Overlay.{top}
use Rattle.lines_words.specs.Text.{letters, signed_text}
use Rattle.lines.specs.Lines.{amount_text}
use Rattle.lines_words.proofs.Laws.Writer.{lays_more, lays-text}
use Rattle.lines.proofs.put_amount.Goals as goal

pub returns-in-Zero : goal.returns-in-Zero
unfolding amount_text letters
returns-in-Zero c = lays-text (sym (ap amount_text c.in-Zero.is)) c.word.ensures

pub returns-in-Some : goal.returns-in-Some
unfolding amount_text letters
returns-in-Some c =
    let h : length c.args.text.now.area.now ≤ top = search rules in
    let e = to_z-of_z w32 c.in-Some.power.0 (search rules) in
    lays-text (sym (ap amount_text c.in-Some.is))
    (lays_more h (lays_more h (lays-text (ap signed_text e) c.signed.ensures) c.word-in-Some.ensures) c.number.ensures)

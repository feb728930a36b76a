-- `put_paths` meets its contract: the case that the match found is the definition's, and the power is read back from its bits.
use mathlib.Core.Path.{sym, ap}
use Prim.Native.Nat.{◌≤◌}
use borrow.Author.Rules.{rules}
use lib.ListN.{length}
use mir.Syntax.{w32}
use mir.ValLaws.{to_z-of_z}
use Rattle.lines_words.specs.Overlay.{top}
use Rattle.lines_words.specs.Text.{letters, signed_text}
use Rattle.path_lines.specs.Lines.{paths_text}
use Rattle.lines_words.proofs.Laws.Writer.{lays_more, lays-text}
use Rattle.path_lines.proofs.put_paths.Goals as goal

pub returns-in-Err : goal.returns-in-Err
unfolding paths_text
returns-in-Err c = lays-text (sym (ap paths_text c.in-Err.is)) c.put_refused.ensures

pub returns-in-Ok : goal.returns-in-Ok
unfolding paths_text letters
returns-in-Ok c =
    let h : length c.args.text.now.area.now ≤ top = search rules in
    let e = to_z-of_z w32 c.in-Ok.sum.power.0 (search rules) in
    lays-text (sym (ap paths_text c.in-Ok.is))
    (lays_more h (lays_more h c.put_four.ensures c.word.ensures) (lays-text (ap signed_text e) c.signed.ensures))

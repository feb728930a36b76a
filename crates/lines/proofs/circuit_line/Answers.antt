-- `lines::circuit_line` meets its contract: its writers lay the parts of the line one after the other.
use Prim.Native.Nat.{◌≤◌}
use borrow.Author.Rules.{rules}
use lib.ListN.{length}
use Rattle.lines_words.specs.Overlay.{top}
use Rattle.lines_words.specs.Text.{letters}
use Rattle.lines.specs.Lines.{circuit_line}
use Rattle.lines_words.proofs.Laws.Writer.{lays_more}
use Rattle.lines.proofs.circuit_line.Goals as goal

pub returns : goal.returns
unfolding circuit_line letters
returns c =
    let h : length c.args.text.now.area.now ≤ top = search rules in
    lays_more h (lays_more h (lays_more h c.number.ensures c.word.ensures) c.put_amount.ensures) c.word-2.ensures

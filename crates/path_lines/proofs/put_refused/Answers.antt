-- `put_refused` meets its contract: its writers lay the parts one after the other.
use Prim.Native.Nat.{◌≤◌}
use borrow.Author.Rules.{rules}
use lib.ListN.{length}
use Rattle.lines_words.specs.Overlay.{top}
use Rattle.lines_words.specs.Text.{letters}
use Rattle.path_lines.specs.Lines.{refused_text}
use Rattle.lines_words.proofs.Laws.Writer.{lays_more}
use Rattle.path_lines.proofs.put_refused.Goals as goal

pub returns : goal.returns
unfolding refused_text letters
returns c =
    let h : length c.args.text.now.area.now ≤ top = search rules in
    lays_more h c.word.ensures c.number.ensures

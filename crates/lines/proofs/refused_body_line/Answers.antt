-- `lines::refused_body_line` meets its contract: the body's number, and behind it the line of its word and number.
use Prim.Native.Nat.{◌≤◌}
use borrow.Author.Rules.{rules}
use lib.ListN.{length}
use Rattle.lines_words.specs.Overlay.{top}
use Rattle.lines_words.specs.Text.{letters}
use Rattle.lines.specs.Lines.{refused_body_line}
use Rattle.lines_words.proofs.Laws.Writer.{lays_more}
use Rattle.lines.proofs.refused_body_line.Goals as goal

pub returns : goal.returns
unfolding refused_body_line letters
returns c =
    let h : length c.args.text.now.area.now ≤ top = search rules in
    lays_more h c.number.ensures c.named_line.ensures

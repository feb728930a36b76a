-- `lines::refused_line` meets its contract: it is the line of its word and number.
use Rattle.lines_words.specs.Text.{letters}
use Rattle.lines.specs.Lines.{refused_line}
use Rattle.lines.proofs.refused_line.Goals as goal

pub returns : goal.returns
unfolding refused_line letters
returns c = c.named_line.ensures

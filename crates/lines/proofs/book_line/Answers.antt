-- `lines::book_line` meets its contract: it is the line of its word and number.
use Rattle.lines_words.specs.Text.{letters}
use Rattle.lines.specs.Lines.{book_line}
use Rattle.lines.proofs.book_line.Goals as goal

pub returns : goal.returns
unfolding book_line letters
returns c = c.named_line.ensures

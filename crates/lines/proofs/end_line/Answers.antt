-- `end_line` meets its contract: it is the word of one byte.
use Rattle.lines_words.specs.Text.{letters}
use Rattle.lines.proofs.end_line.Goals as goal

pub returns : goal.returns
unfolding letters
returns c = c.word.ensures

-- `lines::put_chance` meets its contract: the case that the match found is the definition's.
use mathlib.Core.Path.{sym, ap}
use Rattle.lines_words.specs.Text.{letters}
use Rattle.lines.specs.Lines.{chance_text}
use Rattle.lines_words.proofs.Laws.Writer.{lays-text}
use Rattle.lines.proofs.put_chance.Goals as goal

pub returns-in-Never : goal.returns-in-Never
unfolding chance_text letters
returns-in-Never c = lays-text (sym (ap chance_text c.in-Never.is)) c.word.ensures

pub returns-in-OneOver : goal.returns-in-OneOver
unfolding chance_text letters
returns-in-OneOver c = lays-text (sym (ap chance_text c.in-OneOver.is)) c.number.ensures

-- `put_summed` meets its contract: the case that the match found is the definition's.
use mathlib.Core.Path.{sym, ap}
use Rattle.path_lines.specs.Lines.{summed_text}
use Rattle.lines_words.proofs.Laws.Writer.{lays-text}
use Rattle.path_lines.proofs.put_summed.Goals as goal

pub returns-in-Refused : goal.returns-in-Refused
unfolding summed_text
returns-in-Refused c = lays-text (sym (ap summed_text c.in-Refused.is)) c.put_refused.ensures

pub returns-in-Is : goal.returns-in-Is
unfolding summed_text
returns-in-Is c = lays-text (sym (ap summed_text c.in-Is.is)) c.put_amount.ensures

-- The number itself falls from call to call.
use Rattle.lines_words.proofs.Text.+number.Given as goal

abbrev pub decreases-number : goal.decreases-number
decreases-number l = l.n

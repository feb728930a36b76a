-- `word` meets its contract: round by round, from what `shifted` ensures.
use Rattle.try_draw.specs.Word.{mixed, word_of}
use Rattle.try_draw.proofs.word.Goals as goal

pub returns : goal.returns
unfolding mixed word_of
returns c = cc

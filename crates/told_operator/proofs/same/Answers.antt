-- `same` meets its contract: the answer of the call, told.
use Rattle.told_operator.proofs.same.Goals as goal

pub returns : goal.returns
returns c = record { answer = c.same-answer.result; is = c.same-answer.ensures; tells = c.tell_same.ensures }

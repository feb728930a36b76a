-- `common_phase` meets its contract: the answer of the call, told.
use Rattle.told_operator.proofs.common_phase.Goals as goal

pub returns : goal.returns
returns c = record { answer = c.common_phase-answer.result; is = c.common_phase-answer.ensures; tells = c.tell_phase.ensures }

-- The refusal of the inspection. Assumes nothing.
use Rattle.questions.proofs.Replies.{none_looked}
use Rattle.questions.proofs.look_on.Goals as goal

pub returns-in-Err : goal.returns-in-Err
returns-in-Err c = none_looked _ _ _ c.in-Err.ensures

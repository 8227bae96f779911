-- The refusal of the inspection. Assumes nothing.
use borrow.Author.Rules.{rules}
use Rattle.questions.proofs.Replies.{no_pitch}
use Rattle.questions.proofs.pitch_on.Goals as goal

pub returns-in_err-parts : goal.returns-in_err-parts
returns-in_err-parts c = search (no_pitch, rules)

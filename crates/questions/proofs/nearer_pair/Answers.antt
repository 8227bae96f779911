-- The first axis tells, or the two nodes are looked at. Assumes nothing.
use Rattle.questions.proofs.Nearer.{axis-far}
use Rattle.questions.proofs.nearer_pair.Goals as goal

pub returns-then-least-squared : goal.returns-then-least-squared
returns-then-least-squared c = search axis-far

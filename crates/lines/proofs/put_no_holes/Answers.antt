-- One hole, or else a low ratio. Assumes nothing.
use Rattle.paper.specs.Program.{text}
use Rattle.lines.proofs.Putting.{no_pair, low-ratio}
use Rattle.lines.proofs.put_no_holes.Goals as goal

pub returns-in-Single : goal.returns-in-Single
unfolding text
returns-in-Single c = rw c.in-Single.is (search no_pair)

pub returns-in_default : goal.returns-in_default
unfolding text
returns-in_default c = search low-ratio

-- Three pieces, each behind the one before it. Assumes nothing.
use Rattle.paper.specs.Program.{text}
use Rattle.lines.proofs.Putting.{holes_done}
use Rattle.lines.proofs.put_holes.Goals as goal

pub returns : goal.returns
unfolding text
returns c = search holes_done

-- Two lines, one behind the other. Assumes nothing.
use Rattle.paper.specs.Program.{text}
use Rattle.lines.proofs.Putting.{counts_done}
use Rattle.lines.proofs.put_counts.Goals as goal

pub returns : goal.returns
unfolding text
returns c = search counts_done

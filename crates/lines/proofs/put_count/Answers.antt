-- Three pieces, each behind the one before it. Assumes nothing.
use Rattle.paper.specs.Program.{text}
use Rattle.lines.proofs.Putting.{count_done}
use Rattle.lines.proofs.put_count.Goals as goal

pub returns : goal.returns
unfolding text
returns c = search count_done

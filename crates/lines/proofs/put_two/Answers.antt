-- Three pieces, each behind the one before it. Assumes nothing.
use Rattle.lines.proofs.Putting.{two_done}
use Rattle.lines.proofs.put_two.Goals as goal

pub returns : goal.returns
returns c = search two_done

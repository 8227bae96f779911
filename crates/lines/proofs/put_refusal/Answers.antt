-- The number and the value are `paper`'s, and the line's end stands behind them. Assumes nothing.
use Rattle.paper.specs.Program.{text}
use Rattle.lines.proofs.Putting.{refusal_done}
use Rattle.lines.proofs.put_refusal.Goals as goal

pub returns : goal.returns
unfolding text
returns c = search refusal_done

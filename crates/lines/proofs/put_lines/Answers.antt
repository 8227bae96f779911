-- One line for a refused record; three, in two pieces, for a taken one. Assumes nothing.
use Rattle.lines.proofs.Putting.{all_refused, all_taken}
use Rattle.lines.proofs.put_lines.Goals as goal

pub returns-in-Err : goal.returns-in-Err
returns-in-Err c = rw c.in-Err.is (search all_refused)

pub returns-in-Ok : goal.returns-in-Ok
returns-in-Ok c = rw c.in-Ok.is (search all_taken)

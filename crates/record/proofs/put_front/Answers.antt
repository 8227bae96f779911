-- The three parts follow each other. Assumes nothing.
use Rattle.record.proofs.BuildCases.{front_done}
use Rattle.record.proofs.put_front.Goals as goal

pub returns : goal.returns
returns c = search front_done

use Rattle.tree.proofs.PlantCases.{numbered_none, numbered_more}
use Rattle.tree.proofs.number_holes.Goals as goal

pub loop-i-init : goal.loop-i-init
loop-i-init c = numbered_none

pub loop-i-preserved : goal.loop-i-preserved
loop-i-preserved c = numbered_more c.loop-i.invariant c.set_cell.ensures

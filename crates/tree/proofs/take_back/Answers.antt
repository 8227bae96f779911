use Rattle.std.proofs.Common.{arith}
use Rattle.tree.proofs.PartTurns.{take_none, take_turn}
use Rattle.tree.proofs.take_back.Goals as goal

pub loop-i-init : goal.loop-i-init
loop-i-init c = take_none

pub loop-i-preserved : goal.loop-i-preserved
loop-i-preserved c = take_turn c.requires.fits (omega arith) c.loop-i.invariant c.cell-hole.ensures c.set_cell.ensures

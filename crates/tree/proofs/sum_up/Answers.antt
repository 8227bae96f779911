use Rattle.std.proofs.Common.{arith}
use Rattle.tree.proofs.SumTurns.{ready, turn}
use Rattle.tree.proofs.sum_up.Goals as goal

pub sum_node-requires : goal.sum_node-requires
sum_node-requires c = ready c.requires.stands c.requires.holes_in c.loop-k.invariant (omega arith)

pub loop-k-preserved : goal.loop-k-preserved
loop-k-preserved c = turn c.requires.stands c.requires.holes_in c.loop-k.invariant (omega arith) c.sum_node.ensures

-- A leaf has one hole, which is the lowest, and its box is the hole's place. Assumes nothing.
use Rattle.tree.proofs.SumTurns.{filled}
use Rattle.tree.proofs.sum_leaf.Goals as goal

pub returns : goal.returns
returns c = filled c.put_sums.ensures c.requires.node_on.row c.set_point.ensures

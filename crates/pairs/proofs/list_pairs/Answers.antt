use Rattle.std.proofs.Common.{arith}
use Rattle.pairs.proofs.InOrder.{none_below, node_next, node_turn, all_listed}
use Rattle.pairs.proofs.list_pairs.Goals as goal

pub loop-k-init : goal.loop-k-init
loop-k-init c = none_below c.requires.listable

pub list_node-at-requires : goal.list_node-at-requires
list_node-at-requires c = node_next c.requires.listable (omega arith) c.requires.start_bound c.loop-k.invariant

pub loop-k-preserved : goal.loop-k-preserved
loop-k-preserved c = node_turn c.requires.listable (omega arith) c.loop-k.invariant c.list_node-at.ensures

pub returns : goal.returns
returns c = all_listed c.requires.listable (omega arith) (omega arith) c.loop-k.invariant

-- A node is a leaf and lists nothing, or its two parts are compared. Assumes nothing.
use Rattle.pairs.proofs.InOrder.{list_leaf, compare-parts, list-fork}
use Rattle.pairs.proofs.list_node.Goals as goal

pub returns-in-Leaf : goal.returns-in-Leaf
returns-in-Leaf c = list_leaf c.requires c.in-Leaf.ensures

pub compare-requires : goal.compare-requires
compare-requires c = compare-parts c.requires c.in-Fork.ensures

pub returns-in-Fork : goal.returns-in-Fork
returns-in-Fork c = list-fork c.requires c.in-Fork.ensures c.compare.ensures

-- A leaf's row is its hole's; any other node's row stands before its first part's tree, and that before its second part's. Assumes nothing.
use native.Mathlib.Omega.{arith}
use Rattle.tree.proofs.PlantCases.{a_leaf, ready_first, ready-second, a-fork}
use Rattle.tree.proofs.+plant_from.Goals as goal

pub returns-then-s-eq1 : goal.returns-then-s-eq1
returns-then-s-eq1 t c = a_leaf c.requires c.if-s-eq1.true c.cell-hole.ensures c.put_node.ensures

pub plant_from-requires : goal.plant_from-requires
plant_from-requires t c = (omega arith, ready_first c.requires c.plant_fork-f.ensures)

pub plant_from-requires-2 : goal.plant_from-requires-2
plant_from-requires-2 t c = (omega arith, ready-second c.requires c.plant_fork-f.ensures c.plant_from.ensures)

pub returns : goal.returns
returns t c = a-fork c.requires c.plant_fork-f.ensures c.plant_from.ensures c.plant_from-2.ensures

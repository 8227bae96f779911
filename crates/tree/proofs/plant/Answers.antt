-- The field's holes, by their numbers, are the set at the root, and its tree is planted from node 0 on. Assumes nothing.
use Rattle.tree.proofs.PlantCases.{ready_all, grown}
use Rattle.tree.proofs.plant.Goals as goal

pub plant_from-requires : goal.plant_from-requires
plant_from-requires c = ready_all c.requires.field_in c.number_holes.ensures c.requires.grid

pub returns : goal.returns
returns c = grown c.requires.field_in c.number_holes.ensures c.plant_from.ensures

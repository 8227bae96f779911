-- The measure is how many holes the stretch has.
use Rattle.tree.proofs.+plant_from.Given as goal

abbrev pub decreases-plant_from : goal.decreases-plant_from
decreases-plant_from l = l.s.size

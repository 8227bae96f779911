-- The stretch is cut in two parts that each have a hole, so node k's two numbers fit. Assumes nothing.
use native.Mathlib.Omega.{arith}
use Rattle.tree.proofs.PlantCases.{some-both, forked}
use Rattle.tree.proofs.plant_fork.Goals as goal

pub overflow_mul-f : goal.overflow_mul-f
overflow_mul-f c = omega (arith, some-both c.requires.plantable c.requires.many c.cut_in_two-f.ensures)

pub overflow_add-k-2 : goal.overflow_add-k-2
overflow_add-k-2 c = omega (arith, some-both c.requires.plantable c.requires.many c.cut_in_two-f.ensures)

pub put_node-requires : goal.put_node-requires
put_node-requires c =
    let b = some-both c.requires.plantable c.requires.many c.cut_in_two-f.ensures in
    (omega arith, omega arith, omega arith, omega arith)

pub returns : goal.returns
returns c = forked c.requires.plantable c.requires.many c.cut_in_two-f.ensures c.put_node.ensures

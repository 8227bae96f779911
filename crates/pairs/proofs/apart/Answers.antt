-- The first node is asked how far it reaches, and then the second. Assumes nothing.
use Rattle.std.proofs.Common.{arith}
use Rattle.std.proofs.lemmas.Grind.{common_steps}
use Rattle.pairs.proofs.Parted.{near_first, far-second}
use Rattle.pairs.proofs.apart.Goals as goal

pub returns-then-cells-far : goal.returns-then-cells-far
returns-then-cells-far c =
    far-second c.requires c.args.ratio.in_range c.distance-far.ensures.0 c.cells.ensures (omega arith) c.cells-then-cells-far.ensures

pub returns-else-cells-far : goal.returns-else-cells-far
returns-else-cells-far c =
    let e = near_first c.requires c.args.ratio.in_range c.distance-far.ensures.0 c.cells.ensures (omega arith) in grind (arith, common_steps)

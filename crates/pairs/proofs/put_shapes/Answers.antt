use Rattle.std.proofs.Common.{arith}
use Rattle.pairs.proofs.ShapeTurns.{shape_more}
use Rattle.pairs.proofs.put_shapes.Goals as goal

pub loop-k-preserved : goal.loop-k-preserved
loop-k-preserved c = shape_more c.requires c.loop-k.invariant (omega arith) c.put_shape.ensures

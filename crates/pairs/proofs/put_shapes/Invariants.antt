-- Node by node. Assumes nothing.
use Rattle.pairs.proofs.ShapeTurns.{ShapesBelow}
use Rattle.pairs.proofs.put_shapes.Given as goal

abbrev pub invariant-loop-k : goal.invariant-loop-k
invariant-loop-k l = ShapesBelow l.d l.ratio.a l.ratio.b l.n l.k l.initial.work l.work

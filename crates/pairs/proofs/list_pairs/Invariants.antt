-- The pairs of the nodes below k are listed; of all nodes, they are the pairs of the tree. Assumes nothing.
use Rattle.pairs.specs.Comparing.{pairs_below, Laid}
use Rattle.pairs.proofs.list_pairs.Given as goal

abbrev pub invariant-loop-k : goal.invariant-loop-k
invariant-loop-k l = Laid (pairs_below l.work l.d l.ratio.a l.ratio.b l.n l.k) l.start l.initial.out l.out l.at

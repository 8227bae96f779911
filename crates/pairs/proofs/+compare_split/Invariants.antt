-- The measure is twice the holes under both nodes, and one more for `compare`, so that of `split` lies between.
use Rattle.std.proofs.Common.{List, ℕ, ◌+◌, ◌*◌}
use Rattle.theory.specs.Trees.{leaves}
use Rattle.pairs.specs.Comparing.{node_on}
use Rattle.pairs.proofs.+compare_split.Given as goal

abbrev pub holes_under : List ℕ → ℕ → ℕ → ℕ → ℕ
holes_under w n i j = leaves (node_on w n i) + leaves (node_on w n j)

abbrev pub decreases-compare : goal.decreases-compare
decreases-compare l = 2 * holes_under l.work.now l.n l.pair.0 l.pair.1 + 1

abbrev pub decreases-split : goal.decreases-split
decreases-split l = 2 * holes_under l.work.now l.n l.pair.0 l.pair.1

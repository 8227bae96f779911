-- The nodes below k are ranked. The loop starts with the root's FROM set, which leaves the tree and its counts. Assumes nothing.
use Rattle.std.proofs.Common.{List, ℕ, ◌*◌}
use Rattle.slate.specs.Columns.{FROM, MARKS}
use Rattle.slate.specs.Slate.{Kept}
use Rattle.tree.specs.Standing.{tree_on}
use Rattle.tree.proofs.RankTurns.{RankedTo}
use Rattle.tree.proofs.rank.Given as goal

-- from `old` on only FROM, ORDER and RANK have changed, and the nodes below k are ranked
pub record NodesRanked (n k : ℕ) (old w : List ℕ) : Type 0 where
  pub kept : Kept old w (2_048 * FROM) (2_048 * MARKS)
  pub ranked : RankedTo (tree_on old n) k w

abbrev pub invariant-loop-k : goal.invariant-loop-k
invariant-loop-k l = NodesRanked l.n l.k l.initial.work l.work

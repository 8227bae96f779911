-- The nodes below k are loaded; a turn takes one more, or stops at the least that breaks its rule. Assumes nothing.
use Rattle.std.proofs.Common.{◌≡◌, length}
use Rattle.tree.specs.Standing.{tree_in}
use Rattle.tree.specs.Loading.{LoadedTo}
use Rattle.tree.proofs.load.Given as goal

abbrev pub invariant-loop-k : goal.invariant-loop-k
invariant-loop-k l = (length l.work ≡ length l.fn.work) × LoadedTo (tree_in l.nodes l.n) l.k l.work

-- The nearest of the first k pairs; a turn takes one more. Assumes nothing.
use Prim.Native.Nat.{◌≤◌, ◌-◌}
use Rattle.questions.specs.Nearest.{NearestPair}
use Rattle.questions.proofs.nearest_pair.Given as goal

abbrev pub invariant-loop-k : goal.invariant-loop-k
invariant-loop-k l = (l.k ≤ l.m) × NearestPair l.work l.list l.k l.least

abbrev pub decreases-loop-k : goal.decreases-loop-k
decreases-loop-k l = l.m - l.k

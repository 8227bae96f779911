-- The first k pairs are counted, and a turn counts one more. It changes no span, so that each pair covers what it covered at the start.
-- Assumes nothing.
use Rattle.std.proofs.Common.{◌≤◌, ◌-◌}
use Rattle.cover.specs.Rows.{meetings, Tallied}
use Rattle.cover.proofs.tally_pairs.Given as goal

abbrev pub invariant-loop-k : goal.invariant-loop-k
invariant-loop-k l = (l.k ≤ l.m) × Tallied l.n l.k (meetings l.initial.work l.x l.pairs l.k) l.initial.work l.work

abbrev pub decreases-loop-k : goal.decreases-loop-k
decreases-loop-k l = l.m - l.k

-- The first k pairs are marked, and a turn marks one more. It changes no span, so that each pair covers what it covered at the start.
-- Assumes nothing.
use Rattle.std.proofs.Common.{◌≤◌, ◌-◌}
use Rattle.cover.specs.Marks.{by_pairs, Marked}
use Rattle.cover.proofs.mark_pairs.Given as goal

abbrev pub invariant-loop-k : goal.invariant-loop-k
invariant-loop-k l = (l.k ≤ l.m) × Marked l.block.from l.block.end (by_pairs l.initial.work l.pairs l.k) l.initial.work l.work

abbrev pub decreases-loop-k : goal.decreases-loop-k
decreases-loop-k l = l.m - l.k

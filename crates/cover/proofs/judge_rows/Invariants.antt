-- A turn changes SKIP of rank x only, so that no other row says something else. Assumes nothing.
use Rattle.std.proofs.Common.{◌≤◌, ◌-◌}
use Rattle.cover.specs.Marks.{Judged}
use Rattle.cover.proofs.judge_rows.Given as goal

abbrev pub invariant-loop-x : goal.invariant-loop-x
invariant-loop-x l = (l.block.from ≤ l.x) × (l.x ≤ l.block.end) × Judged l.n l.block.from l.block.from l.x l.initial.work l.work

abbrev pub decreases-loop-x : goal.decreases-loop-x
decreases-loop-x l = l.block.end - l.x

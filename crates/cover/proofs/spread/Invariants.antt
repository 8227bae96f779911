-- What is open at a rank is that of the rank before it with its own two wide cells, and SCRATCH, which is set, is none of them. Assumes nothing.
use Rattle.std.proofs.Common.{◌≤◌, ◌-◌}
use Rattle.cover.specs.Rows.{Open, Spread}
use Rattle.cover.proofs.spread.Given as goal

abbrev pub invariant-loop-r : goal.invariant-loop-r
invariant-loop-r l = (l.r ≤ l.n) × Open l.initial.work l.r l.running × Spread l.r l.initial.work l.work

abbrev pub decreases-loop-r : goal.decreases-loop-r
decreases-loop-r l = l.n - l.r

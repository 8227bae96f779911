-- The words from the i-th on are read. Assumes nothing.
use Rattle.std.proofs.Common.{◌+◌, ◌-◌}
use Rattle.slate.specs.Slate.{NumberHeld}
use Rattle.slate.proofs.cells.Given as goal

abbrev pub invariant-loop-i : goal.invariant-loop-i
invariant-loop-i g l = NumberHeld (g.row.N - l.i) l.work (l.from + l.i) l.v

-- At most one agrees for each case that was run. Assumes nothing.
use Rattle.std.proofs.Common.{◌<◌}
use Rattle.sheets.proofs.cases.Given as goal

abbrev pub invariant-loop-i : goal.invariant-loop-i
invariant-loop-i g l = l.right < l.i

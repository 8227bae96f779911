-- The first i words are written. Assumes nothing.
use Rattle.slate.proofs.Numbers.{Setting}
use Rattle.slate.proofs.set_cells.Given as goal

abbrev pub invariant-loop-i : goal.invariant-loop-i
invariant-loop-i g l = Setting l.i l.from l.v l.rest l.fn.work l.work

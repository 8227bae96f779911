-- Node k's box is that of the first i holes of the stretch; a turn puts the next hole into it. Assumes nothing.
use Rattle.std.proofs.Common.{◌≤◌}
use Rattle.tree.proofs.BoxTurns.{BoxTo}
use Rattle.tree.proofs.box_of.Given as goal

abbrev pub invariant-loop-i : goal.invariant-loop-i
invariant-loop-i l = (l.i ≤ l.s.size) × BoxTo l.holes l.d l.n l.s.from l.s.size l.k l.initial.work l.work l.i

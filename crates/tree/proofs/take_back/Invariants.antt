-- The first i holes are back; a turn brings one more, and leaves SCRATCH. Assumes nothing.
use Rattle.tree.specs.Parting.{TakenBack}
use Rattle.tree.proofs.take_back.Given as goal

abbrev pub invariant-loop-i : goal.invariant-loop-i
invariant-loop-i l = TakenBack l.s.from l.i l.initial.work l.work

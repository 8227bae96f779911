-- The nodes from k on are summed up, and a turn sums up the one before. Assumes nothing.
use Rattle.tree.proofs.SumTurns.{SummedFrom}
use Rattle.tree.proofs.sum_up.Given as goal

abbrev pub invariant-loop-k : goal.invariant-loop-k
invariant-loop-k l = SummedFrom l.holes l.d l.n l.initial.work l.work l.k

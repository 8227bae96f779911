-- The numbers below i stand in ORDER, and a turn puts i behind them. Assumes nothing.
use Rattle.tree.specs.Planting.{Numbered}
use Rattle.tree.proofs.number_holes.Given as goal

abbrev pub invariant-loop-i : goal.invariant-loop-i
invariant-loop-i l = Numbered l.i l.initial.work l.work

-- The first i bytes of `from` stand in `to`, and a turn writes one byte more behind them. Assumes nothing.
use Rattle.std.proofs.Common.{take}
use Rattle.words.specs.Words.{Written}
use Rattle.words.proofs.copy.Given as goal

abbrev pub invariant-loop-i : goal.invariant-loop-i
invariant-loop-i l = Written l.initial.to l.to l.at (take l.i l.from)

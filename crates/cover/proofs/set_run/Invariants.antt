-- Word by word: the bits up to word i are set. No other word has a bit between. Assumes nothing.
use Rattle.std.proofs.Common.{true, ◌*◌, min, max}
use Rattle.cover.specs.Marks.{RunSet}
use Rattle.cover.proofs.set_run.Given as goal

abbrev pub invariant-loop-i : goal.invariant-loop-i
invariant-loop-i l = RunSet l.at l.run.from (max l.run.from (min l.run.end (16 * l.i))) l.initial.work l.work true

-- The ranks from block b on are sifted, and a turn sifts a block below them; it leaves their SKIP. Assumes nothing.
use Rattle.std.proofs.Common.{◌*◌, min}
use Rattle.cover.specs.Marks.{Sifted}
use Rattle.cover.proofs.sift.Given as goal

abbrev pub invariant-loop-b : goal.invariant-loop-b
invariant-loop-b l = Sifted l.pairs l.n l.m (min l.n (256 * l.b)) l.n l.initial.work l.work

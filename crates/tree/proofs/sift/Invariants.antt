-- The first i holes of the stretch are sifted; a turn places one more. Assumes nothing.
use Rattle.paper.specs.Field.{holes_at}
use Rattle.paper.specs.Tree.{first}
use Rattle.tree.specs.Planting.{stretch}
use Rattle.tree.specs.Parting.{Sifted}
use Rattle.tree.proofs.sift.Given as goal

abbrev pub invariant-loop-i : goal.invariant-loop-i
invariant-loop-i l =
    Sifted (first (holes_at l.d l.holes 0 l.n) (stretch l.initial.work l.s.from l.s.size)) l.s.from l.i l.initial.work l.work l.f

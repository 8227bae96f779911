-- The greatest so far is the longest side of the box on the first x axes. Assumes nothing.
use mathlib.Core.Path.{◌≡◌}
use Prim.Native.Nat.{◌≤◌, ◌<◌, ◌-◌}
use Rattle.paper.specs.Tree.{longest}
use Rattle.field.specs.Boxes.{box_on}
use Rattle.field.proofs.longest_side.Given as goal

abbrev pub invariant-loop-x : goal.invariant-loop-x
invariant-loop-x l = (l.x ≤ l.d) × (l.most ≡ longest (box_on l.work l.x l.k)) × (l.most < 65_536)

abbrev pub decreases-loop-x : goal.decreases-loop-x
decreases-loop-x l = l.d - l.x

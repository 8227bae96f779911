-- best is the first axis that has the longest side of the first x; a turn looks at one side more. Assumes nothing.
use mathlib.Core.Path.{◌≡◌}
use Prim.Native.Nat.{◌≤◌, ◌<◌, ◌-◌}
use Rattle.paper.specs.Tree.{axis}
use Rattle.field.specs.Boxes.{box_on}
use Rattle.field.proofs.cut_axis.Given as goal

abbrev pub invariant-loop-x : goal.invariant-loop-x
invariant-loop-x l = (l.x ≤ l.d) × (l.best < l.x) × (l.best ≡ axis (box_on l.work l.x l.k))

abbrev pub decreases-loop-x : goal.decreases-loop-x
decreases-loop-x l = l.d - l.x

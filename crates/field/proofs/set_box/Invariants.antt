-- The sides on the first x axes are set; a turn sets one more. Assumes nothing.
use mathlib.Core.Path.{◌≡◌}
use mathlib.Core.List.{map}
use Prim.Native.Nat.{ℕ, ◌≤◌, ◌<◌, ◌-◌}
use Rattle.paper.specs.Lists.{below}
use Rattle.paper.specs.Tree.{Side}
use Rattle.field.specs.Boxes.{box_on}
use Rattle.field.specs.Sides.{LeftFrom}
use Rattle.field.proofs.set_box.Given as goal

abbrev pub invariant-loop-x : goal.invariant-loop-x
invariant-loop-x g l =
    (l.x ≤ l.d) × LeftFrom l.initial.work l.work l.k l.x
    × ((f : ℕ → Side) → ((w : _) (x : ℕ) (s : Side) → x < l.d → LeftFrom l.initial.work w.now l.k x → goal.F-post g l.of w x s → s ≡ f x)
    → box_on l.work l.x l.k ≡ map f (below l.x))

abbrev pub decreases-loop-x : goal.decreases-loop-x
decreases-loop-x g l = l.d - l.x

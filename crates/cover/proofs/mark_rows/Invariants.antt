-- In the block the ranks asked are those that are left at first; the rows up to those that are left now are marked. Assumes nothing.
use Rattle.std.proofs.Common.{◌≡◌, ◌≤◌, ◌-◌, max}
use Rattle.cover.specs.Marks.{crossing, Marked}
use Rattle.cover.proofs.mark_rows.Given as goal

abbrev pub invariant-loop-left : goal.invariant-loop-left
invariant-loop-left l =
    (l.left.end ≡ l.initial.left.end)
    × (l.initial.left.from ≤ l.left.from)
    × (l.left.from ≤ max l.initial.left.from l.left.end)
    × Marked l.block.from l.block.end (crossing l.initial.left.from l.left.from l.columns.from l.columns.end) l.initial.work l.work

abbrev pub decreases-loop-left : goal.decreases-loop-left
decreases-loop-left l = l.left.end - l.left.from

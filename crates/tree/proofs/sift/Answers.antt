use borrow.Author.Rules.{rules}
use Rattle.tree.proofs.PartTurns.{sift_none, goes_first, goes-second}
use Rattle.tree.proofs.sift.Goals as goal
use Rattle.tree.proofs.sift.Goals.{then-goes_first, else-goes_first}

ruleset all = (goes_first, goes-second, rules)

pub loop-i-init : goal.loop-i-init
loop-i-init c = sift_none

pub loop-i-preserved : goal.loop-i-preserved
loop-i-preserved c =
    elim c.if-goes_first.branch [ then-goes_first w ↦ rw (w.f-is, w.work-is) (search all) | else-goes_first w ↦ rw (w.f-is, w.work-is) (search all) ]

use mathlib.Core.Path.{ap, ◌∙◌}
use borrow.Author.Rules.{rules}
use Rattle.paper.specs.Tree.{Side, long}
use Rattle.field.proofs.Longest.{best_start, best-new, best-stays}
use Rattle.field.proofs.cut_axis.Goals as goal
use Rattle.field.proofs.cut_axis.Goals.{then-length, else-length}

pub loop-x-init : goal.loop-x-init
loop-x-init c = search (best_start, rules)

pub loop-x-preserved : goal.loop-x-preserved
loop-x-preserved c =
    let inv = c.loop-x.invariant in
    let p = c.length.ensures.0 ∙ ap (λ (s : Side). long s) c.side_on.ensures in
    let q = c.length-in-loop-x.ensures.0 ∙ ap (λ (s : Side). long s) c.side_on-in-loop-x.ensures in
    elim c.if-length.branch [
      | then-length w ↦ rw w.best-is (search rules, search rules, best-new _ _ _ _ _ _ inv.1 inv.2 p q w.if-length.true)
      | else-length w ↦ rw w.best-is (search rules, search rules, best-stays _ _ _ _ _ _ inv.1 inv.2 p q w.if-length.false)
    ]

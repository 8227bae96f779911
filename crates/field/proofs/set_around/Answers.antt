use mathlib.Core.Path.{◌≡◌, ap₂, ◌∙◌}
use Rattle.std.proofs.Common.{rules}
use Rattle.paper.specs.Lists.{below}
use Rattle.field.specs.Boxes.{side_on, box_on}
use Rattle.field.specs.Sides.{side_around}
use Rattle.field.proofs.Boxes.{other_side}
use Rattle.field.proofs.Axis.{around_of}
use Rattle.field.proofs.set_around.Goals as goal

pub returns : goal.returns
unfolding box_on
returns c =
    let one = side_on c.args.work.now c.args.i in
    let two = side_on c.args.work.now c.args.j in
    rw (around_of one two (below c.args.d))
    (c.set_box.ensures (λ x. side_around (one x) (two x)) (λ w x s l a p.
    let left = other_side c.args.work.now w.now a.rest c.requires.node_on.row in
    let found : s ≡ side_around (side_on w.now c.args.i x) (side_on w.now c.args.j x) = search rules in
    found ∙ ap₂ side_around (left c.args.i x c.requires.k_lt_i.1 (search rules)) (left c.args.j x c.requires.k_lt_j.1 (search rules))))

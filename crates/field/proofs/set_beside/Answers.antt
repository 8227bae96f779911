use Prim.Native.Nat.{ℕ, ◌+◌, ◌*◌}
use mathlib.Core.Path.{◌≡◌, ap, ◌∙◌}
use Rattle.std.proofs.Common.{rules}
use Rattle.words.specs.Words.{be}
use Rattle.paper.specs.Lists.{below}
use Rattle.paper.specs.Tree.{Side, point}
use Rattle.field.specs.Boxes.{side_on, box_on}
use Rattle.field.specs.Sides.{side_around}
use Rattle.field.proofs.Axis.{spot_of, around_of}
use Rattle.field.proofs.set_beside.Goals as goal

pub returns : goal.returns
unfolding box_on
returns c =
    let args = c.args in
    let one : ℕ → Side = side_on args.work.now args.k in
    let two : ℕ → Side = λ x. point (be 2 args.holes.now (2 * args.d * args.h + 2 * x)) in
    rw (spot_of, around_of one two (below args.d)) (c.set_box.ensures (λ x. side_around (one x) (two x)) (λ w x s l a p.
    let found : s ≡ side_around (side_on w.now args.k x) (two x) = search rules in
    found ∙ ap (λ t. side_around t (two x)) (a.sides x (search rules))))

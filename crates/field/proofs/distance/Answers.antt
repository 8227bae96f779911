use Rattle.std.proofs.Common.{rules}
use Rattle.paper.specs.Separation.{C, D}
use Rattle.field.specs.Sides.{twice_centre, gap_on}
use Rattle.field.proofs.Axis.{distance_of}
use Rattle.field.proofs.distance.Goals as goal

pub returns : goal.returns
unfolding D C
returns c =
    let args = c.args in (
      rw distance_of (c.sum_of_squares.ensures.is (gap_on twice_centre args.work.now args.j args.k) (λ x r l p. search rules)),
      c.sum_of_squares.ensures.bound,
    )

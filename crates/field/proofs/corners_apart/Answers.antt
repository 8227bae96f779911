use Rattle.std.proofs.Common.{rules}
use Rattle.field.specs.Boxes.{low_end}
use Rattle.field.specs.Sides.{gap_on}
use Rattle.field.proofs.Axis.{distance_of}
use Rattle.field.proofs.corners_apart.Goals as goal

pub returns : goal.returns
returns c =
    let args = c.args in (
      rw distance_of (c.sum_of_squares.ensures.is (gap_on low_end args.work.now args.j args.k) (λ x r l p. search rules)),
      c.sum_of_squares.ensures.bound,
    )

use Rattle.std.proofs.Common.{rules}
use Rattle.paper.specs.Tree.{long}
use Rattle.field.specs.Boxes.{side_on}
use Rattle.field.proofs.Axis.{G_of}
use Rattle.field.proofs.girth.Goals as goal

pub returns : goal.returns
returns c =
    let args = c.args in (
      rw G_of (c.sum_of_squares.ensures.is (λ x. long (side_on args.work.now args.k x)) (λ x r l p. search rules)),
      c.sum_of_squares.ensures.bound,
    )

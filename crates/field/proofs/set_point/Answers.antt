use Prim.Native.Nat.{◌+◌, ◌*◌}
use Rattle.std.proofs.Common.{rules}
use Rattle.words.specs.Words.{be}
use Rattle.paper.specs.Tree.{point}
use Rattle.field.proofs.Axis.{spot_of}
use Rattle.field.proofs.set_point.Goals as goal

pub returns : goal.returns
returns c =
    let args = c.args in
    rw spot_of (c.set_box.ensures (λ x. point (be 2 args.holes.now (2 * args.d * args.h + 2 * x))) (λ w x s l a p. search rules))

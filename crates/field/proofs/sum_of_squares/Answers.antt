use mathlib.Core.Path.{◌≡◌}
use Rattle.std.proofs.Common.{rules}
use native.Mathlib.Omega.{arith}
use Rattle.field.specs.Sides.{squares}
use Rattle.field.proofs.Axis.{squares_more}
use Rattle.field.proofs.sum_of_squares.Goals as goal

pub loop-x-init : goal.loop-x-init
unfolding squares
loop-x-init g c = search rules

pub loop-x-preserved : goal.loop-x-preserved
loop-x-preserved g c = (
  search rules,
  search rules,
  λ f h. squares_more f _ _ _ _ (c.loop-x.invariant.2 f h) (h _ _ c.loop-x-test.true c.of.ensures) c.squared-sum.ensures,
)

pub returns : goal.returns
returns g c =
    let at_end : c.loop-x.x ≡ c.args.d = omega arith in record { is = λ f h. rw at_end at (c.loop-x.invariant.2 f h); bound = search rules }

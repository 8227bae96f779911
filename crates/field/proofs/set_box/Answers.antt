use Prim.Native.Nat.{◌<◌}
use native.Mathlib.Omega.{arith}
use Rattle.std.proofs.Common.{rules}
use Rattle.field.proofs.Axis.{box_none, left_start, left_more, sides_more, box_done}
use Rattle.field.proofs.set_box.Goals as goal

pub loop-x-init : goal.loop-x-init
loop-x-init g c = (search rules, left_start _ _, λ f h. box_none _ _)

pub loop-x-preserved : goal.loop-x-preserved
loop-x-preserved g c =
    let inv = c.loop-x.invariant in
    let few : c.loop-x.x < 3 = omega (arith, c.loop-x-test.true, c.requires.node_on.axes.few) in (
      search rules,
      left_more inv.1 c.set_side.ensures few,
      λ f h. sides_more inv.1 c.set_side.ensures few f (inv.2 f h) (h _ _ _ c.loop-x-test.true inv.1 c.of-s.ensures),
    )

pub returns : goal.returns
returns g c =
    let inv = c.loop-x.invariant in
    λ f h. box_done f inv.1 (inv.2 f h) inv.0 c.loop-x-test.false

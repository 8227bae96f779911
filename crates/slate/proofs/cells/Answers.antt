use Rattle.std.proofs.Common.{arith}
use Rattle.slate.proofs.Numbers.{held_more, held_room}
use Rattle.slate.proofs.cells.Goals as goal

pub overflow_mul-v : goal.overflow_mul-v
overflow_mul-v g c = omega (arith, held_room c.loop-i.invariant c.loop-i-test.true c.loop-i.auto.i c.requires.width)

pub overflow_add-v : goal.overflow_add-v
overflow_add-v g c = omega (arith, held_room c.loop-i.invariant c.loop-i-test.true c.loop-i.auto.i c.requires.width, c.load.ensures.small)

pub loop-i-preserved : goal.loop-i-preserved
loop-i-preserved g c = held_more _ c.loop-i.invariant c.loop-i-test.true c.loop-i.auto.i c.load.ensures

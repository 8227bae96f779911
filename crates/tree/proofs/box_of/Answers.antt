use Rattle.std.proofs.Common.{arith}
use borrow.Author.Rules.{rules}
use Rattle.tree.proofs.BoxTurns.{hole-first, hole_next, box_start, box_turn, box_done}
use Rattle.tree.proofs.box_of.Goals as goal

pub set_point-requires-clause-hole_in : goal.set_point-requires-clause-hole_in
set_point-requires-clause-hole_in c = hole-first c.requires.stretch_on c.cell-first.ensures

pub loop-i-init : goal.loop-i-init
loop-i-init c = (search rules, box_start c.requires.stretch_on c.cell-first.ensures c.requires.k_bound c.set_point.ensures)

pub set_beside-requires-clause-hole_in : goal.set_beside-requires-clause-hole_in
set_beside-requires-clause-hole_in c = hole_next c.loop-i.invariant.1 (omega arith) c.cell-hole.ensures

pub loop-i-preserved : goal.loop-i-preserved
loop-i-preserved c = (search rules, box_turn c.loop-i.invariant.1 (omega arith) c.cell-hole.ensures c.set_beside.ensures)

pub returns : goal.returns
returns c = box_done c.set_point.ensures c.loop-i.invariant.1 (omega arith) (omega arith)

-- Setting node k's box leaves the stretch, so what is cut is the stretch as it was. Assumes nothing.
use Rattle.tree.proofs.BoxTurns.{part_ready, cut_both}
use Rattle.tree.proofs.cut_in_two.Goals as goal

pub part-requires : goal.part-requires
part-requires c = part_ready c.requires.stretch_on c.requires.k_bound c.box_of.ensures

pub returns : goal.returns
returns c = cut_both c.requires.stretch_on c.requires.k_bound c.box_of.ensures c.part.ensures

-- What goes first stands in front already, and what SCRATCH holds comes after it. Assumes nothing.
use Rattle.tree.proofs.PartTurns.{part_of}
use Rattle.tree.proofs.part.Goals as goal

pub returns : goal.returns
returns c = part_of c.requires c.sift-f.ensures c.take_back.ensures

-- The node count, and then the nodes. Assumes nothing.
use Rattle.record.proofs.PutLaws.{nodes_done}
use Rattle.record.proofs.put_nodes.Goals as goal

pub returns : goal.returns
returns c = search nodes_done

-- What is written is the end of the eight bytes of v. Assumes nothing.
use Rattle.std.proofs.Common.{arith}
use Rattle.words.proofs.Laws.{put_last}
use Rattle.words.proofs.put.Goals as goal

pub returns : goal.returns
returns g c = put_last c.copy.ensures c.to_be_bytes.ensures (omega arith) c.requires.width

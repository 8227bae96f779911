-- The two numbers, one after the other. Assumes nothing.
use Rattle.record.proofs.PutLaws.{entry_done}
use Rattle.record.proofs.put_entry.Goals as goal

pub returns : goal.returns
returns c = search entry_done

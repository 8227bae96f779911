-- The pairs say how long the record is; the front is written before them where there is room. Assumes nothing.
use Rattle.record.proofs.BuildAnswers.{no_room, record-made}
use Rattle.record.proofs.write_record.Goals as goal

pub returns-then-out-end : goal.returns-then-out-end
returns-then-out-end c = search no_room

pub returns : goal.returns
returns c = search record-made

-- The place that the parts name, or the empty place. Assumes nothing.
use Rattle.record.specs.Sections.{part_of}
use Rattle.record.proofs.TakeCases.{nowhere, there}
use Rattle.record.proofs.place_of.Goals as goal

pub returns-in-Ok : goal.returns-in-Ok
returns-in-Ok c = there _ _ _ c.in-Ok.ensures c.args.section c.place.ensures

pub returns-in-Err : goal.returns-in-Err
returns-in-Err c = nowhere _ _ _ c.in-Err.ensures (part_of c.args.section)

-- The tree is planted and sized up, and then its record is written. Assumes nothing.
use borrow.Author.Rules.{rules}
use Rattle.record.proofs.Drawing.{planted, shaped}
use Rattle.record.proofs.fill.Goals as goal

pub size_up-requires-clause-stands : goal.size_up-requires-clause-stands
size_up-requires-clause-stands c = search (planted, rules)

pub write_record-requires-clause-drawn : goal.write_record-requires-clause-drawn
write_record-requires-clause-drawn c = search (shaped, rules)

-- The ratio is two bytes, written as one number. Assumes nothing.
use borrow.Author.Rules.{rules}
use Rattle.record.proofs.PutLaws.{head_done}
use Rattle.record.proofs.put_head.Goals as goal

pub returns : goal.returns
returns c = search (head_done, rules)

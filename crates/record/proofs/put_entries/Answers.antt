use borrow.Author.Rules.{rules}
use Rattle.record.proofs.PutLaws.{one_put, all_put}
use Rattle.record.proofs.put_entries.Goals as goal

pub loop-k-preserved : goal.loop-k-preserved
loop-k-preserved c = search (one_put, rules)

pub returns : goal.returns
returns c = search (all_put, rules)

use borrow.Author.Rules.{rules}
use Rattle.field.proofs.Chains.{bucket_none, bucket_more}
use Rattle.field.proofs.bucket.Goals as goal

pub loop-x-init : goal.loop-x-init
loop-x-init c = search (bucket_none, rules)

pub loop-x-preserved : goal.loop-x-preserved
loop-x-preserved c = search (bucket_more, rules)

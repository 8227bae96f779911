use borrow.Author.Rules.{rules}
use Rattle.field.proofs.Longest.{longest-none, longest_more}
use Rattle.field.proofs.longest_side.Goals as goal

pub loop-x-init : goal.loop-x-init
loop-x-init c = search (longest-none, rules)

pub loop-x-preserved : goal.loop-x-preserved
loop-x-preserved c = search (longest_more, rules)

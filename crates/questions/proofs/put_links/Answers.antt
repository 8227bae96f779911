use borrow.Author.Rules.{rules}
use Rattle.questions.proofs.LinkLaws.{no_link, link_more}
use Rattle.questions.proofs.put_links.Goals as goal

pub loop-k-init : goal.loop-k-init
loop-k-init c = search (no_link, rules)

pub loop-k-preserved : goal.loop-k-preserved
loop-k-preserved c = search (link_more, rules)

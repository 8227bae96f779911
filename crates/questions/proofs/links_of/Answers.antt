-- One case for each return. Assumes nothing.
use Rattle.questions.proofs.LinkReplies.{links-low, links-short, links_fit, links-made}
use Rattle.questions.proofs.links_of.Goals as goal

pub returns-then-p : goal.returns-then-p
returns-then-p c = rw c.low.ensures (search links-low)

pub returns-then-out-m : goal.returns-then-out-m
returns-then-out-m c = search links-short

pub put_links-requires : goal.put_links-requires
put_links-requires c = search links_fit

pub returns : goal.returns
returns c = search links-made

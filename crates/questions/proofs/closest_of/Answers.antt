-- One case for each return. Assumes nothing.
use borrow.Author.Rules.{rules}
use Rattle.questions.proofs.Replies.{is_single, is_low, is-closest}
use Rattle.questions.proofs.closest_of.Goals as goal

pub returns-then-p-eq1 : goal.returns-then-p-eq1
returns-then-p-eq1 c = search (is_single, rules)

pub returns-then-p : goal.returns-then-p
returns-then-p c = rw c.low.ensures (search is_low)

pub returns : goal.returns
returns c = search (is-closest, rules)

-- Each refusal is what `Exits` says of it. Assumes nothing.
use borrow.Author.Rules.{rules}
use Rattle.record.proofs.Exits.{short-nodes, wrong-nodes, short-pairs, wrong-pairs, short-end, over-end}
use Rattle.record.proofs.cut_parts.Goals as goal

ruleset all = (short-nodes, wrong-nodes, short-pairs, wrong-pairs, short-end, over-end, rules)

pub returns-then-len-n : goal.returns-then-len-n
returns-then-len-n c = search all

pub returns-then-nodes-n : goal.returns-then-nodes-n
returns-then-nodes-n c = search all

pub returns-then-len-n-2 : goal.returns-then-len-n-2
returns-then-len-n-2 c = search all

pub returns-then-n-m : goal.returns-then-n-m
returns-then-n-m c = search all

pub returns-then-len-end : goal.returns-then-len-end
returns-then-len-end c = search all

pub returns-then-end-len : goal.returns-then-end-len
returns-then-end-len c = search all

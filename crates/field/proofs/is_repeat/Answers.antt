use borrow.Author.Rules.{rules}
use Rattle.field.proofs.Chains.{ahead_start, hole_ahead, met, ahead_lower, ahead_more, not_met}
use Rattle.field.proofs.is_repeat.Goals as goal

ruleset all = (ahead_start, hole_ahead, met, ahead_lower, ahead_more, not_met, rules)

pub loop-c-init : goal.loop-c-init
loop-c-init c = search all

pub returns-then-same_place : goal.returns-then-same_place
returns-then-same_place c = search all

pub loop-c-preserved : goal.loop-c-preserved
loop-c-preserved c = search all

pub returns : goal.returns
returns c = search all

use borrow.Author.Rules.{rules}
use Rattle.field.proofs.Places.{hole_in, none_before_start, none_before_more, first_repeat, no_repeats}
use Rattle.field.proofs.Chains.{chained_none, chained_more}
use Rattle.field.proofs.repeated.Goals as goal

ruleset all = (hole_in, none_before_start, first_repeat, no_repeats, chained_none, rules)

pub loop-i-preserved : goal.loop-i-preserved
loop-i-preserved c =
    let inv = c.loop-i.invariant in (
      search rules,
      none_before_more _ _ _ inv.1 c.loop-i-test.true c.is_repeat.ensures c.if-is_repeat.false,
      chained_more (search rules) c.loop-i-test.true inv.2 c.bucket-b.ensures c.push.ensures,
    )

pub returns-then-is_repeat : goal.returns-then-is_repeat
returns-then-is_repeat c = search all

pub returns : goal.returns
returns c = search all

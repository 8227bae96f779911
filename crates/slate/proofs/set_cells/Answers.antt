use Rattle.std.proofs.Common.{rules}
use Rattle.slate.proofs.Numbers.{set_none, set_one, set_all}
use Rattle.slate.proofs.set_cells.Goals as goal

ruleset all = (set_none, set_one, set_all, rules)

pub loop-i-init : goal.loop-i-init
loop-i-init g c = search all

pub loop-i-preserved : goal.loop-i-preserved
loop-i-preserved g c = search all

pub returns : goal.returns
returns g c = search all

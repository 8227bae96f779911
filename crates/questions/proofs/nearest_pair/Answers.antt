use Rattle.std.proofs.Common.{rules}
use Rattle.questions.proofs.Nearer.{pair_more}
use Rattle.questions.proofs.nearest_pair.Goals as goal

pub loop-k-preserved : goal.loop-k-preserved
loop-k-preserved c = search (pair_more, rules)

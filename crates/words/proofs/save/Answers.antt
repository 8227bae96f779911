use Rattle.std.proofs.Common.{rules}
use Rattle.words.proofs.AreaLaws.{saved_two}
use Rattle.words.proofs.save.Goals as goal

pub returns : goal.returns
returns c = search (rules, saved_two)

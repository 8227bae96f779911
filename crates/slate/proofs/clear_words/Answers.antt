use Rattle.std.proofs.Common.{rules}
use Rattle.std.proofs.lemmas.List.{places}
use Rattle.slate.proofs.Frames.{cleared}
use Rattle.slate.proofs.clear_words.Goals as goal

pub returns : goal.returns
returns c = cleared (search (rules, places))

-- Two numbers of two bytes each, one after the other. Assumes nothing.
use Rattle.std.proofs.Common.{arith}
use Rattle.words.proofs.Laws.{written_more, length-bytes}
use Rattle.paper.proofs.put_two_numbers.Goals as goal

pub returns : goal.returns
returns c = written_more c.put.ensures c.put-2.ensures (omega (arith, length-bytes 2 c.args.two.0))

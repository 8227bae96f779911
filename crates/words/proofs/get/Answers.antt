use Rattle.std.proofs.Common.{arith}
use Rattle.words.proofs.Laws.{read_last}
use Rattle.words.proofs.get.Goals as goal

pub returns : goal.returns
returns g c = rw c.from_be_bytes.ensures (read_last c.requires.width c.requires.there (λ k. omega (arith, c.type_inv.s k)) c.copy.ensures)

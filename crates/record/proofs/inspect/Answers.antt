-- The work area is tested first, then the bytes; the rest is `inspect_nodes`. Assumes nothing.
use borrow.Author.Rules.{rules}
use Rattle.record.proofs.TakeCases.{is_short, is_cut}
use Rattle.record.proofs.inspect.Goals as goal

pub returns-then-work-lt65536 : goal.returns-then-work-lt65536
returns-then-work-lt65536 c = search is_short

pub returns-in_err-p : goal.returns-in_err-p
returns-in_err-p c = search (is_cut, rules)

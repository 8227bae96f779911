-- Too long an input is refused at once; any other is looked at, and both answers are printed. Assumes nothing.
use Rattle.lines.proofs.Reporting.{is-long, is-looked}
use Rattle.lines.proofs.report.Goals as goal

pub returns-then-bytes-gt65536 : goal.returns-then-bytes-gt65536
returns-then-bytes-gt65536 c = search is-long

pub returns : goal.returns
returns c = search is-looked

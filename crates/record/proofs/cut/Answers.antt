-- Each refusal is what `Exits` says of it; what is left after the first four bytes is what `cut_parts` asks for. Assumes nothing.
use borrow.Author.Rules.{rules}
use Rattle.record.proofs.Exits.{short-head, right_ratio, wrong-ratio, no_holes, many-holes, begins}
use Rattle.record.proofs.cut.Goals as goal

ruleset all = (short-head, wrong-ratio, begins, rules)

pub returns-then-bytes-lt4 : goal.returns-then-bytes-lt4
returns-then-bytes-lt4 c = search all

pub returns-in_err-ratio : goal.returns-in_err-ratio
returns-in_err-ratio c = search all

pub returns-then-n-eq0 : goal.returns-then-n-eq0
returns-then-n-eq0 c = search (no_holes, right_ratio c.args.bytes.now c.in_ok-ratio.ratio c.in_ok-ratio.ensures, rules)

pub returns-then-n-gt1024 : goal.returns-then-n-gt1024
returns-then-n-gt1024 c = search (many-holes, right_ratio c.args.bytes.now c.in_ok-ratio.ratio c.in_ok-ratio.ensures, rules)

pub cut_parts-requires : goal.cut_parts-requires
cut_parts-requires c = search all

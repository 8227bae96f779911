-- The spans are read once: marking changes neither. Assumes nothing.
use Rattle.std.proofs.Common.{List, ℕ, sym, rules}
use Rattle.cover.specs.Rows.{SpansOf}
use Rattle.cover.specs.Marks.{crossing, by_pair, PairMarking, Marked}
use Rattle.cover.proofs.SpanLaws.{meeting-is}
use Rattle.cover.proofs.MarkLaws.{marked_as, marked_more}
use Rattle.cover.proofs.mark_pair.Goals as goal

covered : {u v w ps : List ℕ} {start end k a b d e : ℕ} → PairMarking u ps start end k → SpansOf u ps k a b d e → Marked start end (crossing a b d e) u v
    → Marked start end (crossing d e a b) v w → Marked start end (by_pair u ps k) u w
unfolding crossing by_pair
covered g s m n = marked_as (λ x r y z. sym (meeting-is g.spans s x r)) (marked_more m n)

pub returns : goal.returns
returns c = search (covered, rules)

-- Cells that are 0 add up to 0, and the second column cleared is not the first. Assumes nothing.
use Rattle.std.proofs.Common.{◌∙◌, List, ℕ, ◌*◌, arith, rules}
use Rattle.slate.specs.Columns.{MARKS, TALLY}
use Rattle.slate.specs.Slate.{Cleared}
use Rattle.slate.proofs.Frames.{kept_more}
use Rattle.cover.specs.Rows.{Ranks, Emptied}
use Rattle.cover.proofs.RowLaws.{upto_kept, upto_zero}
use Rattle.cover.proofs.empty_counts.Goals as goal

both : {a b d : List ℕ} {n : ℕ} → Cleared a b MARKS (2 * n) → Cleared b d TALLY (2 * n) → Ranks a n → Emptied n a d
both {b} {d} {n} p q g =
    record {
      kept = kept_more p.kept q.kept (omega arith) (omega arith) (omega arith) (omega arith);
      none = record {
        starts = λ r l. upto_kept q.kept MARKS r (omega arith) ∙ upto_zero b MARKS n p.zero r l;
        ends = λ r l. upto_zero d TALLY n q.zero r l;
      };
    }

pub returns : goal.returns
returns c = search (both, rules)

-- Nothing is marked, then what the pairs cover is, so that a row that is full but for its own rank is good. Assumes nothing.
use Rattle.std.proofs.Common.{List, ℕ, arith, rules}
use Rattle.slate.proofs.Frames.{kept_wider, kept_both}
use Rattle.cover.specs.Spans.{Ready}
use Rattle.cover.specs.Marks.{by_pairs, PairsMarking, Marked, Blank, JudgingAll, Judged, Sifted}
use Rattle.cover.proofs.SpanLaws.{ready-kept, meetings-kept}
use Rattle.cover.proofs.sift_block.Goals as goal

module _ {a b ps : List ℕ} {n m start end : ℕ} (g : Ready a ps n m) (j : JudgingAll a n start end) (p : Blank start end a b) where
  marking : PairsMarking b ps m start end
  marking =
      record {
        n = n;
        ready = ready-kept p.kept g;
        block = record { grid = omega arith; order = j.block.order; rows = j.block.rows; few = j.block.few };
        skips = p.skips;
      }

  sifted : {c d : List ℕ} → Marked start end (by_pairs b ps m) b c → Judged n start start end c d → Sifted ps n m start end a d
  unfolding by_pairs
  sifted q s =
      record {
        kept = kept_both (kept_both p.kept q.kept) (kept_wider s.kept (omega arith) (omega arith));
        good = λ x l h z. record {
          once = λ r o e.
              omega (
                arith,
                s.good x l h _ (q.rows x l h (λ r. 0) (p.rows x l h)) z r o e,
                meetings-kept p.kept g m x r (omega arith),
              );
        };
      }

ruleset all = (marking, sifted, rules)

pub mark_pairs-requires : goal.mark_pairs-requires
mark_pairs-requires c = search all

pub returns : goal.returns
returns c = search all

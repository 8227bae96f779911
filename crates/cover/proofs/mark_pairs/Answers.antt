use Rattle.std.proofs.Common.{refl, List, ℕ, ◌<◌, ◌+◌, arith, rules}
use Rattle.cover.specs.Rows.{meetings}
use Rattle.cover.specs.Marks.{by_pair, by_pairs, PairMarking, PairsMarking, Marked}
use Rattle.cover.proofs.SpanLaws.{one_pair, ready-kept, meetings-more}
use Rattle.cover.proofs.MarkLaws.{marked-none, marked_as, marked_more, block_kept}
use Rattle.cover.proofs.mark_pairs.Goals as goal

begin : {w : List ℕ} {start end : ℕ} (ps : List ℕ) → Marked start end (by_pairs w ps 0) w w
unfolding by_pairs meetings
begin ps = marked-none (λ x r a b. refl)

next : {w₀ w ps : List ℕ} {m start end k : ℕ} {f : ℕ → ℕ → ℕ} → Marked start end f w₀ w → PairsMarking w₀ ps m start end → k < m
    → PairMarking w ps start end k
next {k} d g l =
    let r = ready-kept d.kept g.ready in
    record {
      block = block_kept g.block d;
      skips = d.skips g.skips;
      spans = one_pair r l;
      left = omega (arith, r.within _ (r.left k l), r.given.few);
      right = omega (arith, r.within _ (r.right k l), r.given.few);
    }

turn : {w₀ w w' ps : List ℕ} {m start end k : ℕ} → Marked start end (by_pairs w₀ ps k) w₀ w → PairsMarking w₀ ps m start end → k < m
    → Marked start end (by_pair w ps k) w w' → Marked start end (by_pairs w₀ ps (k + 1)) w₀ w'
unfolding by_pair by_pairs
turn {k} d g l s = marked_as (λ x r a b. meetings-more d.kept g.ready k x r l) (marked_more d s)

ruleset all = (begin, next, turn, rules)

pub loop-k-init : goal.loop-k-init
loop-k-init c = search all

pub mark_pair-requires : goal.mark_pair-requires
mark_pair-requires c = search all

pub loop-k-preserved : goal.loop-k-preserved
loop-k-preserved c = search all

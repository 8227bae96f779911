use Rattle.std.proofs.Common.{◌≡◌, refl, List, ℕ, ◌≤◌, ◌<◌, ◌+◌, zero-add, arith, rules}
use Rattle.cover.specs.Spans.{Ready}
use Rattle.cover.specs.Rows.{pair_at, Open, meeting, meetings, PairSpans, Uncounted, Tallying, Tallied, Counted}
use Rattle.cover.proofs.SpanLaws.{one_pair, ready-kept, meetings-more}
use Rattle.cover.proofs.RowLaws.{tallied_none, tallied_as, tallied_more}
use Rattle.cover.proofs.tally_pairs.Goals as goal

start : {w : List ℕ} {n : ℕ} (x : ℕ) (ps : List ℕ) → Tallied n 0 (meetings w x ps 0) w w
unfolding meetings
start x ps = tallied_as (λ r. refl) tallied_none

module _ {w₀ w ps : List ℕ} {n m k : ℕ} {f : ℕ → ℕ} (d : Tallied n k f w₀ w) (g : Ready w₀ ps n m) where
  next : k < m → PairSpans w ps k
  next l = one_pair (ready-kept d.kept g) l

  tallying : Uncounted w₀ n → k ≤ m → Tallying w n
  tallying u l =
      record {
        starts = record { grid = omega arith; column = omega arith; few = omega arith; most = omega (arith, u.starts n (omega arith)) };
        ends = record { grid = omega arith; column = omega arith; few = omega arith; most = omega (arith, u.ends n (omega arith)) };
      }

  ranks : Uncounted w₀ n → (r : ℕ) → r < n → Open w (r + 1) (f r)
  ranks u r l =
      rw zero-add at (d.ranks r 0 l (record { is = omega (arith, u.starts (r + 1) (omega arith), u.ends (r + 1) (omega arith)) }))

turn : {w₀ w w' ps : List ℕ} {n m k : ℕ} (x : ℕ) → Tallied n k (meetings w₀ x ps k) w₀ w → Ready w₀ ps n m → k < m
    → Tallied n 1 (meeting w x (pair_at ps k)) w w' → Tallied n (k + 1) (meetings w₀ x ps (k + 1)) w₀ w'
turn {k} x d g l s = tallied_as (λ r. meetings-more d.kept g k x r l) (tallied_more d s)

done : {w₀ w ps : List ℕ} {n m k x : ℕ} → Tallied n k (meetings w₀ x ps k) w₀ w → Ready w₀ ps n m → Uncounted w₀ n → k ≤ m → m ≤ k
    → Counted ps n m x w₀ w
done {w₀} {w} {ps} {n} {m} {k} {x} d g u l h =
    let e : k ≡ m = omega arith in
    let all : Counted ps n k x w₀ w =
    record {
      kept = d.kept;
      spreading = record { tallying = tallying d g u l; ranks = λ r b. omega (arith, (ranks d g u r b).is) };
      ranks = ranks d g u;
    } in
    rw e at all

ruleset all = (start, next, turn, done, rules)

pub loop-k-init : goal.loop-k-init
loop-k-init c = search all

pub tally_pair-requires : goal.tally_pair-requires
tally_pair-requires c = search all

pub loop-k-preserved : goal.loop-k-preserved
loop-k-preserved c = search all

pub returns : goal.returns
returns c = search all

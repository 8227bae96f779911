-- The blocks are 256 ranks each, but for the last. Assumes nothing.
use Rattle.std.proofs.Common.{◌≡◌, sym, ◌∙◌, List, ℕ, ◌+◌, ◌-◌, ◌*◌, ◌<◌, ◌≤◌, min, arith, rules, inl, inr}
use Rattle.std.proofs.lemmas.Bool.{cases_lt}
use Rattle.slate.specs.Columns.{SKIP}
use Rattle.slate.proofs.Frames.{kept_cell, kept_wider, kept_both}
use Rattle.cover.specs.Spans.{Ready}
use Rattle.cover.specs.Marks.{Sifted}
use Rattle.cover.proofs.SpanLaws.{ready-kept, meetings-kept}
use Rattle.cover.proofs.sift.Goals as goal

module _ {w₀ w ps : List ℕ} {n m end : ℕ} (g : Ready w₀ ps n m) (d : Sifted ps n m end n w₀ w) where
  still_ready : Ready w ps n m
  still_ready = ready-kept d.kept g

  turn : {w' : List ℕ} {start : ℕ} → end ≤ n → Sifted ps n m start end w w' → Sifted ps n m start n w₀ w'
  turn {w'} {start} l s =
      record {
        kept = kept_both d.kept (kept_wider s.kept (omega arith) (omega arith));
        good = λ x a b z.
            elim (cases_lt x end) [
              | inl h ↦ record { once = λ r o f. sym (meetings-kept d.kept g m x r (omega arith)) ∙ (s.good x a h z).once r o f }
              | inr h ↦ d.good x h b (sym (kept_cell s.kept SKIP x (omega arith)) ∙ z)
            ];
      }

pub loop-b-init : goal.loop-b-init
loop-b-init c = record { kept = search rules; good = λ x a b z. absurd (omega (arith, c.div_ceil-b.ensures)) }

pub sift_block-requires : goal.sift_block-requires
sift_block-requires c =
    let r = still_ready c.requires c.loop-b.invariant in
    let l : 256 * (c.loop-b.b - 1) < c.args.n = omega (arith, c.div_ceil-b.ensures) in
    let e : c.min-end.result ≡ min c.args.n (256 * (c.loop-b.b - 1) + 256) = c.min-end.ensures in
    record {
      ready = r;
      judging_all = record {
        block = record { grid = r.given.grid; order = omega arith; rows = omega arith; few = omega (arith, r.given.few) };
        within = omega arith;
        few = r.given.few;
      };
    }

pub loop-b-preserved : goal.loop-b-preserved
loop-b-preserved c =
    let e : min c.args.n (256 * (c.loop-b.b - 1)) ≡ 256 * (c.loop-b.b - 1) = omega (arith, c.div_ceil-b.ensures) in
    let f : c.min-end.result ≡ min c.args.n (256 * c.loop-b.b) = omega (arith, c.min-end.ensures) in
    rw e (turn c.requires c.loop-b.invariant (omega arith) (rw f at c.sift_block.ensures))

pub returns : goal.returns
returns c =
    let e : min c.args.n (256 * c.loop-b.b) ≡ 0 = omega arith in
    rw e at c.loop-b.invariant

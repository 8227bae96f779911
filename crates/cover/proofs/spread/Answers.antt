use Rattle.std.proofs.Common.{◌≡◌, refl, ◌∙◌, List, ℕ, ◌≤◌, ◌<◌, ◌+◌, min, arith, rules, below_more}
use Rattle.slate.specs.Columns.{MARKS, SCRATCH, TALLY}
use Rattle.slate.specs.Slate.{cell, Set}
use Rattle.slate.proofs.Frames.{set-cell, kept_set, kept_both}
use Rattle.cover.specs.Rows.{upto, Open, Spreading, Opening, Spread}
use Rattle.cover.proofs.RowLaws.{upto_most, upto_kept}
use Rattle.cover.proofs.spread.Goals as goal

none_open : {w : List ℕ} → Open w 0 0
unfolding upto
none_open = record { is = refl }

module _ {w₀ w : List ℕ} {n r : ℕ} (p : Spreading w₀ n) (d : Spread r w₀ w) where
  marks : (i : ℕ) → i ≤ n → upto w MARKS i ≡ upto w₀ MARKS i
  marks i b = upto_kept d.kept MARKS i (omega arith)

  tallies : (i : ℕ) → i ≤ n → upto w TALLY i ≡ upto w₀ TALLY i
  tallies i b = upto_kept d.kept TALLY i (omega arith)

  next : {x : ℕ} → Open w₀ r x → r < n → Opening w r x
  next {x} o b =
      record {
        grid = omega arith;
        row = omega arith;
        before = record { is = omega (arith, marks r (omega arith), tallies r (omega arith)) };
        order = omega (arith, p.ranks r b, marks (r + 1) (omega arith), tallies (r + 1) (omega arith));
        most = omega (arith, marks (r + 1) (omega arith), upto_most w₀ MARKS (r + 1) n (omega arith));
      }

  back : {x : ℕ} → Open w (r + 1) x → r < n → Open w₀ (r + 1) x
  back o b = record { is = omega (arith, marks (r + 1) (omega arith), tallies (r + 1) (omega arith)) }

  turn : {w' : List ℕ} {v : ℕ} (x : ℕ) → Open w (r + 1) x → v ≡ min x 2 → r < n → Set w w' SCRATCH r v → Spread (r + 1) w₀ w'
  turn {v} x o e b s =
      record {
        kept = kept_both d.kept (kept_set s (omega arith) (omega arith));
        capped = λ i y l q.
            below_more (λ i. (y : ℕ) → Open w₀ (i + 1) y → cell _ SCRATCH i ≡ min 2 y) r
            (λ i l y q. set-cell s SCRATCH i (omega arith) ∙ d.capped i y l q)
            (λ y q. let f : x ≡ y = omega (arith, (back o b).is) in omega (arith, s.here)) i l y q;
      }

ruleset all = (none_open, next, back, turn, rules)

pub loop-r-init : goal.loop-r-init
loop-r-init c = search all

pub open_at-running-requires : goal.open_at-running-requires
open_at-running-requires c = search all

pub loop-r-preserved : goal.loop-r-preserved
loop-r-preserved c = search all

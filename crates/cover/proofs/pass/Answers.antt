-- The rows passed over are given up, and they stay so when their number is noted at lo. Assumes nothing.
use Rattle.std.proofs.Common.{refl, List, ℕ, ◌<◌, ◌-◌, arith, rules}
use Rattle.slate.specs.Columns.{SKIP}
use Rattle.slate.specs.Slate.{Held, Set}
use Rattle.slate.proofs.Frames.{set-cell, kept_none, kept_set}
use Rattle.cover.specs.Marks.{Gone, Passed}
use Rattle.cover.proofs.MarkLaws.{says_any, still, skips_set, rows_marked}
use Rattle.cover.proofs.pass.Goals as goal

module _ {w : List ℕ} {lo hi x : ℕ} (g : Gone w lo hi x) where
  stays : Passed lo hi w w x
  stays =
      record {
        len = refl;
        after = g.after;
        until = g.until;
        rows = λ start f.
            rows_marked kept_none (λ end l s. s) (λ end i l s p q d f u. says_any (g.gone start end s l i p q d))
            (λ i o. (refl, λ a b r m. refl));
      }

  noted : {w' : List ℕ} {s : ℕ} → Held w SKIP lo s → s < x - lo → Set w w' SKIP lo (x - lo) → Passed lo hi w w' x
  noted a m t =
      let p : 0 < x - lo = omega arith in
      record {
        len = t.len;
        after = g.after;
        until = g.until;
        rows = λ start f.
            rows_marked (kept_set t (omega arith) (omega arith))
            (λ end l s. skips_set lo t p (λ i c d e. g.gone start end s l i (omega arith) (omega arith) e) s)
            (λ end i l s y z d f u. says_any (still lo t p i (g.gone start end s l i y z d)))
            (λ i o. (set-cell t SKIP i (λ y. o (omega arith) (omega arith)), λ a b r m. t.rest _ (omega arith)));
      }

ruleset all = (stays, noted, rules)

pub returns-then-cell-passed : goal.returns-then-cell-passed
returns-then-cell-passed c = search all

pub returns-else-cell-passed : goal.returns-else-cell-passed
returns-else-cell-passed c = search all

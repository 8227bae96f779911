use Rattle.std.proofs.Common.{◌≡◌, refl, sym, ◌∙◌, List, ℕ, ◌≤◌, ◌<◌, ◌+◌, arith, rules, inl, inr}
use Rattle.std.proofs.lemmas.Bool.{cases_lt}
use Rattle.slate.specs.Columns.{SKIP}
use Rattle.slate.proofs.Frames.{kept_cell, kept_more}
use Rattle.cover.specs.Marks.{JudgingAll, Judged}
use Rattle.cover.proofs.MarkLaws.{says_kept}
use Rattle.cover.proofs.judge_rows.Goals as goal

module _ {w₀ w : List ℕ} {n start end x : ℕ} (g : JudgingAll w₀ n start end) (d : Judged n start start x w₀ w) where
  turn : {w' : List ℕ} → start ≤ x → x < end → Judged n start x (x + 1) w w' → Judged n start start (x + 1) w₀ w'
  turn l b s =
      record {
        kept = kept_more d.kept s.kept (omega arith) (omega arith) (omega arith) (omega arith);
        good = λ y a h f u z r m o.
            elim (cases_lt y x) [
              | inl k ↦ d.good y a k f u (sym (kept_cell s.kept SKIP y (omega arith)) ∙ z) r m o
              | inr k ↦
                  s.good y k h f
                  (says_kept (kept_cell d.kept SKIP y (omega arith)) (λ r m. d.kept.rest _ (omega arith)) (λ r. refl) u) z r m o
            ];
      }

done : {old new : List ℕ} {n start end x : ℕ} → Judged n start start x old new → x ≤ end → end ≤ x → Judged n start start end old new
done {end} {x} d l m = let e : x ≡ end = omega arith in rw (← e) d

ruleset all = (turn, done, rules)

pub loop-x-preserved : goal.loop-x-preserved
loop-x-preserved c = search all

pub returns : goal.returns
returns c = search all

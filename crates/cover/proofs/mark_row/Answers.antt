-- The row says the columns more, or it is given up; no word of another row is changed. Assumes nothing.
use Rattle.std.proofs.Common.{◌≡◌, sym, ◌∙◌, Bool, false, not, List, ℕ, ◌+◌, arith, rules}
use borrow.Author.Tests.{not-false}
use Rattle.slate.specs.Columns.{SKIP}
use Rattle.slate.specs.Slate.{cell, Set}
use Rattle.slate.proofs.Frames.{set-cell, kept_cell, kept_set, kept_wider, kept_both}
use Rattle.cover.specs.Bits.{between}
use Rattle.cover.specs.Marks.{row_at, RunSet, RowIn, Says, RowsMarked}
use Rattle.cover.proofs.MarkLaws.{says_any, skips_kept, skips_set, rows_marked}
use Rattle.cover.proofs.mark_row.Goals as goal

module _ {w w' : List ℕ} {start x c d at : ℕ} {t : Bool} (g : RowIn w start x c d) (is : at ≡ row_at start x) (s : RunSet at c d w w' t) where
  k : RunSet (row_at start x) c d w w' t
  k = rw (← is) s

  -- SKIP is as it was
  skip : (i : ℕ) → cell w' SKIP i ≡ cell w SKIP i
  skip i = kept_cell k.kept SKIP i (omega arith)

  says_more : not t ≡ false → RowsMarked start x (x + 1) (between c d) w w'
  says_more e =
      rows_marked (kept_wider k.kept (omega arith) (omega arith)) (λ end l. skips_kept (λ i o. skip i))
      (λ end i l s p q o f u.
      let m : i ≡ x = omega arith in
      record {
        is = λ v r n.
            let here : Says w start x f = rw m at u in
            rw m (omega (arith, k.bits (not-false t e) r n, here.is (sym (skip x) ∙ (rw m at v)) r n));
      })
      (λ i o. (skip i, λ a b r n. k.kept.rest _ (λ y v. o (omega arith) (omega arith))))

  given_up : {w'' : List ℕ} → Set w' w'' SKIP x 1 → RowsMarked start x (x + 1) (between c d) w w''
  given_up n =
      rows_marked (kept_both (kept_wider k.kept (omega arith) (omega arith)) (kept_set n (omega arith) (omega arith)))
      (λ end l s. skips_set x n (omega arith) (λ i o p. absurd (omega arith)) (skips_kept (λ i o. skip i) s))
      (λ end i l s p q o f u. let m : i ≡ x = omega arith in says_any (rw m (omega (arith, n.here))))
      (λ i o. (
        set-cell n SKIP i (λ y. o (omega arith) (omega arith)) ∙ skip i,
        λ a b r m. n.rest _ (omega arith) ∙ k.kept.rest _ (λ y v. o (omega arith) (omega arith)),
      ))

ruleset all = (says_more, given_up, rules)

pub returns-then-not-set_run : goal.returns-then-not-set_run
returns-then-not-set_run c = search all

pub returns-else-not-set_run : goal.returns-else-not-set_run
returns-else-not-set_run c = search all

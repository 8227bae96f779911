-- The rows passed over say whatever is wanted, the next row says the columns more. Assumes nothing.
use Rattle.std.proofs.Common.{List, ℕ, ◌≤◌, ◌<◌, ◌+◌, arith, rules}
use Rattle.cover.specs.Bits.{between}
use Rattle.cover.specs.Marks.{RowsIn, Passed, RowsMarked, Advanced}
use Rattle.cover.proofs.MarkLaws.{rows_more}
use Rattle.cover.proofs.mark_next.Goals as goal

module _ {w w' : List ℕ} {start lo hi c d x : ℕ} (g : RowsIn w start lo hi c d) (p : Passed lo hi w w' x) where
  all_passed : hi ≤ x → Advanced start lo hi c d w w' x
  all_passed l = record { after = omega arith; until = p.until; rows = p.rows start (between c d) }

  one_more : {w'' : List ℕ} → x < hi → RowsMarked start x (x + 1) (between c d) w' w'' → Advanced start lo hi c d w w'' (x + 1)
  one_more l s =
      record { after = omega arith; until = omega arith; rows = rows_more (p.rows start (between c d)) s p.after (omega arith) }

ruleset all = (all_passed, one_more, rules)

pub returns-then-ranks-x : goal.returns-then-ranks-x
returns-then-ranks-x c = search all

pub returns : goal.returns
returns c = search all

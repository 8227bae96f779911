-- From a row that is given up to the end of its run every row is; so up to x every row is. Assumes nothing.
use Rattle.std.proofs.Common.{List, ℕ, ◌≤◌, ◌<◌, ◌-◌}
use Rattle.slate.specs.Columns.{SKIP}
use Rattle.slate.specs.Slate.{cell}
use Rattle.cover.specs.Marks.{Skips}
use Rattle.cover.proofs.next_kept.Given as goal

-- up to x every row is given up, whatever x is
pub record GoneTo (w : List ℕ) (lo x : ℕ) : Type 0 where
  pub after : lo ≤ x
  pub gone : (start end : ℕ) → Skips w start end → start ≤ lo → (i : ℕ) → lo ≤ i → i < x → i < end → 0 < cell w SKIP i

abbrev pub invariant-loop-x : goal.invariant-loop-x
invariant-loop-x l = GoneTo l.work l.ranks.from l.x

abbrev pub decreases-loop-x : goal.decreases-loop-x
decreases-loop-x l = l.ranks.end - l.x

-- Up to hole i every two holes are covered exactly once, and for it SCRATCH says 1 up to hole j, so that the first two that are not are the least. No
-- row changes what is counted. Assumes nothing.
use Rattle.std.proofs.Common.{◌≡◌, List, ℕ, ◌<◌, ◌≤◌, ◌+◌, None}
use Rattle.cover.specs.Spans.{coverings}
use Rattle.cover.specs.Rows.{Beside, said}
use Rattle.cover.proofs.least_two.Given as goal

-- every two holes are covered exactly once whose first is below i; of those after hole i and below j the rank says so
pub record OnceBelow (w ps : List ℕ) (n m i : ℕ) : Type 0 where
  pub once : (a b : ℕ) → a < i → a < b → b < n → coverings w ps m (a, b) ≡ 1

pub record OnceUpTo (w : List ℕ) (i j : ℕ) : Type 0 where
  pub once : (b : ℕ) → i + 1 ≤ b → b < j → said w b ≡ 1

abbrev pub invariant-loop-j : goal.invariant-loop-j
invariant-loop-j l = (l.found ≡ None) × OnceUpTo l.work l.i l.j

abbrev pub invariant-search : goal.invariant-search
invariant-search l = (l.found ≡ None) × Beside l.initial.work l.work × OnceBelow l.initial.work l.pairs l.n l.m l.i

-- Covering by ranks: a node's holes are a stretch of the ranks, so that a hole is under a node exactly where its rank is in the node's span.
-- Assumes nothing.
use Rattle.std.specs.Prelude.{◌≡◌, List, ℕ, ◌+◌, ◌*◌, ◌<◌, ◌≤◌, leb, ltb, length, Option, Some, None}
use mathlib.Core.Bool.{Bool, ◌&&◌, ◌||◌}
use Rattle.words.specs.Area.{word}
use Rattle.slate.specs.Columns.{HOLES, FROM, RANK, MARKS}
use Rattle.slate.specs.Slate.{cell}
use Rattle.paper.specs.Lists.{count}
use Rattle.paper.specs.Field.{list_at}
use Rattle.paper.specs.Record.{nodes_of, two_numbers_at}
use Rattle.paper.specs.Refusals.{LeastTwo}
use Rattle.pairs.specs.Checking.{PairsIn}

-- rank r is in the span of node k
unfoldable pub spans : List ℕ → ℕ → ℕ → Bool
spans w k r = leb (cell w FROM k) r && ltb r (cell w FROM k + cell w HOLES k)

-- hole h is under node k, by its rank
abbrev pub in_span : List ℕ → ℕ → ℕ → Bool
in_span w k h = spans w k (cell w RANK h)

-- the pair covers the two holes, by their ranks
unfoldable pub covers_on : List ℕ → ℕ × ℕ → ℕ × ℕ → Bool
covers_on w q p = in_span w p.0 q.0 && in_span w p.1 q.1 || in_span w p.0 q.1 && in_span w p.1 q.0

-- how many of the m pairs cover the two holes
unfoldable pub coverings : List ℕ → List ℕ → ℕ → ℕ × ℕ → ℕ
coverings w ps m q = count (covers_on w q) (list_at two_numbers_at 4 ps 0 m)

-- the spans are within n, the ranks too, no two holes have the same rank, each pair names two nodes, and no rank is in the spans of both
pub record Ready (w ps : List ℕ) (n m : ℕ) : Type 0 where
  pub given : PairsIn w ps n m
  pub within : (k : ℕ) → k < nodes_of n → cell w FROM k + cell w HOLES k ≤ n
  pub ranks : (h : ℕ) → h < n → cell w RANK h < n
  pub places : (i j : ℕ) → i < n → j < n → cell w RANK i ≡ cell w RANK j → i ≡ j
  pub left : (k : ℕ) → k < m → (two_numbers_at ps (4 * k)).0 < nodes_of n
  pub right : (k : ℕ) → k < m → (two_numbers_at ps (4 * k)).1 < nodes_of n
  pub apart : (k : ℕ) → k < m → (r : ℕ) → spans w (two_numbers_at ps (4 * k)).0 r ≡ mathlib.Core.Bool.true
      → spans w (two_numbers_at ps (4 * k)).1 r ≡ mathlib.Core.Bool.true → ⊥

-- what the search for two holes finds
abbrev pub FindsTwo : (ℕ × ℕ → Type 0) → ℕ → Option (ℕ × ℕ) → Type 0
FindsTwo P n (Some (i, j)) = LeastTwo P n (i, j)
FindsTwo P n None = (i j : ℕ) → i < j → j < n → P (i, j) → ⊥

-- the least two holes that are not covered exactly once. Beside the columns from MARKS on nothing has changed
pub record Covering (ps : List ℕ) (n m : ℕ) (old new : List ℕ) (r : Option (ℕ × ℕ)) : Type 0 where
  pub len : length new ≡ length old
  pub found : FindsTwo (λ q. coverings old ps m q ≡ 1 → ⊥) n r
  pub rest : (i : ℕ) → (2_048 * MARKS ≤ i → i < 32_768 → ⊥) → word new i ≡ word old i

-- One row of the covering: for a hole, how many pairs cover it and the hole of each rank. A pair that has it in one span covers it with the ranks
-- of the other span: that span is one more in MARKS where it starts and one more in TALLY where it ends, so that at each rank as many
-- spans are open as more have started up to it than have ended. Assumes nothing.
use Rattle.std.specs.Prelude.{◌≡◌, true, ◌&&◌, ◌||◌, List, ℕ, ◌+◌, ◌*◌, ◌<◌, ◌≤◌, min, ltb, length}
use Rattle.slate.specs.Columns.{HOLES, FROM, RANK, MARKS, SCRATCH, TALLY, LOW}
use Rattle.slate.specs.Slate.{cell, cells, Grid, Kept}
use Rattle.paper.specs.Record.{two_numbers_at}
use Rattle.theory.specs.Trees.{one_if}
use Rattle.theory.proofs.Sums.{sum}
use Rattle.cover.specs.Spans.{spans, coverings, Ready}

-- beside the columns from MARKS up to LOW nothing has changed
abbrev pub Beside : List ℕ → List ℕ → Type 0
Beside old new = Kept old new (2_048 * MARKS) (2_048 * LOW)

-- pair k
abbrev pub pair_at : List ℕ → ℕ → ℕ × ℕ
pair_at ps k = two_numbers_at ps (4 * k)

-- the wide cells of column c below rank r, added
unfoldable pub upto : List ℕ → ℕ → ℕ → ℕ
upto w c r = sum (cells 2 w c) r

-- of the spans, x more start below rank r than end there
pub record Open (w : List ℕ) (r x : ℕ) : Type 0 where
  pub is : upto w MARKS r ≡ upto w TALLY r + x

-- 1 where the pair covers the holes of ranks x and r, else 0
unfoldable pub meeting : List ℕ → ℕ → ℕ × ℕ → ℕ → ℕ
meeting w x p r = one_if (spans w p.0 x && spans w p.1 r || spans w p.0 r && spans w p.1 x)

-- how many of the first k pairs do
unfoldable pub meetings : List ℕ → ℕ → List ℕ → ℕ → ℕ → ℕ
meetings w x ps k r = sum (λ j. meeting w x (pair_at ps j) r) k

-- there is a node k with a span
pub record SpanOn (w : List ℕ) (k : ℕ) : Type 0 where
  pub grid : Grid w
  pub row : k < 2_048

-- node k's span is from a up to, not including, e
pub record SpanOf (w : List ℕ) (k a e : ℕ) : Type 0 where
  pub from : a ≡ cell w FROM k
  pub end : e ≡ cell w FROM k + cell w HOLES k

-- the spans of pair k's nodes are from a up to b and from d up to e
pub record SpansOf (w ps : List ℕ) (k a b d e : ℕ) : Type 0 where
  pub first : SpanOf w (pair_at ps k).0 a b
  pub second : SpanOf w (pair_at ps k).1 d e

-- pair k names two nodes, and no rank is in the spans of both
pub record PairSpans (w ps : List ℕ) (k : ℕ) : Type 0 where
  pub grid : Grid w
  pub here : 4 * k + 4 ≤ length ps
  pub left : (pair_at ps k).0 < 2_048
  pub right : (pair_at ps k).1 < 2_048
  pub apart : (r : ℕ) → spans w (pair_at ps k).0 r ≡ true → spans w (pair_at ps k).1 r ≡ true → ⊥

-- column c has n wide cells, and they count no more than the most pairs
pub record Counting (w : List ℕ) (c n : ℕ) : Type 0 where
  pub grid : Grid w
  pub column : c < 16
  pub few : n ≤ 1_024
  pub most : upto w c n ≤ 523_776

-- where k is below n, wide cell k of column c is one more. Beside the column's n wide cells nothing has changed
pub record OneMore (c n k : ℕ) (old new : List ℕ) : Type 0 where
  pub kept : Kept old new (2_048 * c) (2_048 * c + 2 * n)
  pub sums : (r : ℕ) → r ≤ n → upto new c r ≡ upto old c r + one_if (ltb k r)

-- each column has n wide cells
pub record Ranks (w : List ℕ) (n : ℕ) : Type 0 where
  pub grid : Grid w
  pub few : n ≤ 1_024

-- no span is counted
pub record Uncounted (w : List ℕ) (n : ℕ) : Type 0 where
  pub starts : (r : ℕ) → r ≤ n → upto w MARKS r ≡ 0
  pub ends : (r : ℕ) → r ≤ n → upto w TALLY r ≡ 0

-- no span is counted any more
pub record Emptied (n : ℕ) (old new : List ℕ) : Type 0 where
  pub kept : Beside old new
  pub none : Uncounted new n

-- spans are counted
pub record Tallying (w : List ℕ) (n : ℕ) : Type 0 where
  pub starts : Counting w MARKS n
  pub ends : Counting w TALLY n

-- at most k spans are counted more, f r of which have rank r
pub record Tallied (n k : ℕ) (f : ℕ → ℕ) (old new : List ℕ) : Type 0 where
  pub kept : Beside old new
  pub starts : upto new MARKS n ≤ upto old MARKS n + k
  pub ends : upto new TALLY n ≤ upto old TALLY n + k
  pub ranks : (r x : ℕ) → r < n → Open old (r + 1) x → Open new (r + 1) (x + f r)

-- up to each rank no more spans end than start
pub record Spreading (w : List ℕ) (n : ℕ) : Type 0 where
  pub tallying : Tallying w n
  pub ranks : (r : ℕ) → r < n → upto w TALLY (r + 1) ≤ upto w MARKS (r + 1)

-- rank r follows, and of the spans x are open so far
pub record Opening (w : List ℕ) (r x : ℕ) : Type 0 where
  pub grid : Grid w
  pub row : r < 1_024
  pub before : Open w r x
  pub order : upto w TALLY (r + 1) ≤ upto w MARKS (r + 1)
  pub most : upto w MARKS (r + 1) ≤ 523_776

-- at each rank r as many spans are open as pairs cover its hole and the hole of rank x
pub record Counted (ps : List ℕ) (n m x : ℕ) (old new : List ℕ) : Type 0 where
  pub kept : Beside old new
  pub spreading : Spreading new n
  pub ranks : (r : ℕ) → r < n → Open new (r + 1) (meetings old x ps m r)

-- SCRATCH says for each rank how many spans are open, two standing for more
pub record Spread (n : ℕ) (old new : List ℕ) : Type 0 where
  pub kept : Kept old new (2_048 * SCRATCH) (2_048 * TALLY)
  pub capped : (r x : ℕ) → r < n → Open old (r + 1) x → cell new SCRATCH r ≡ min 2 x

-- SCRATCH says for the rank of each hole how many pairs cover it and hole i, two standing for more
pub record RowOn (w ps : List ℕ) (n m i : ℕ) : Type 0 where
  pub ready : Ready w ps n m
  pub capped : (j : ℕ) → j < n → cell w SCRATCH (cell w RANK j) ≡ min 2 (coverings w ps m (i, j))

pub record Row (ps : List ℕ) (n m i : ℕ) (old new : List ℕ) : Type 0 where
  pub kept : Beside old new
  pub row : RowOn new ps n m i

-- what SCRATCH says for the rank of hole j
abbrev pub said : List ℕ → ℕ → ℕ
said w j = cell w SCRATCH (cell w RANK j)

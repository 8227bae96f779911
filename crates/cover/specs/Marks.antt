-- The filter in front of the covering. For each rank it has a row of bits, one for each rank: how often, at most once, the pairs cover the holes of the
-- two. A row whose bit would be set twice is given up. Rows stand from MARKS up to SKIP, a block of at most 256 at a time. Assumes nothing.
use Rattle.std.specs.Prelude.{◌≡◌, Bool, true, List, ℕ, ◌+◌, ◌-◌, ◌*◌, ◌/◌, ◌%◌, ◌<◌, ◌≤◌, length}
use Rattle.words.specs.Area.{word}
use Rattle.slate.specs.Columns.{HOLES, FROM, MARKS, SKIP}
use Rattle.slate.specs.Slate.{cell, Grid, Kept}
use Rattle.cover.specs.Bits.{bit, between}
use Rattle.cover.specs.Spans.{Ready}
use Rattle.cover.specs.Rows.{pair_at, meeting, meetings, PairSpans}

-- ---- a word, and a row: bit r of a row is bit r % 16 of its word r / 16

-- there is a word i, and bits from lo up to hi in it
pub record BitsIn (w : List ℕ) (i lo hi : ℕ) : Type 0 where
  pub grid : Grid w
  pub there : i < 32_768
  pub order : lo ≤ hi
  pub few : hi ≤ 16

-- where r is true, the bits from lo up to hi of word i were 0 and are 1. Beside the word nothing has changed
pub record BitsSet (i lo hi : ℕ) (old new : List ℕ) (r : Bool) : Type 0 where
  pub kept : Kept old new i (i + 1)
  pub bits : r ≡ true → (j : ℕ) → bit (word new i) j ≡ bit (word old i) j + between lo hi j

-- where r is true, they all are 1
pub record BitsFull (w : List ℕ) (i lo hi : ℕ) (r : Bool) : Type 0 where
  pub bits : r ≡ true → (j : ℕ) → lo ≤ j → j < hi → bit (word w i) j ≡ 1

-- bit r of the row whose first word is `at`; where the row of rank x starts, in the block whose first rank is start
unfoldable pub marked : List ℕ → ℕ → ℕ → ℕ
marked w at r = bit (word w (at + r / 16)) (r % 16)

abbrev pub row_at : ℕ → ℕ → ℕ
row_at start x = 2_048 * MARKS + 64 * (x - start)

-- there is a row at `at`, and bits from lo up to hi in it
pub record RunIn (w : List ℕ) (at lo hi : ℕ) : Type 0 where
  pub grid : Grid w
  pub there : at + 64 ≤ 32_768
  pub order : lo ≤ hi
  pub few : hi ≤ 1_024

pub record RunSet (at lo hi : ℕ) (old new : List ℕ) (r : Bool) : Type 0 where
  pub kept : Kept old new at (at + 64)
  pub bits : r ≡ true → (j : ℕ) → j < 1_024 → marked new at j ≡ marked old at j + between lo hi j

pub record RunFull (w : List ℕ) (at lo hi : ℕ) (r : Bool) : Type 0 where
  pub bits : r ≡ true → (j : ℕ) → lo ≤ j → j < hi → marked w at j ≡ 1

-- ---- the rows of a block: SKIP x is 0 while the row of rank x is kept; s > 0: those of the s ranks from x on are given up

pub record Block (w : List ℕ) (start end : ℕ) : Type 0 where
  pub grid : Grid w
  pub order : start ≤ end
  pub rows : end ≤ start + 256
  pub few : end ≤ 1_024

pub record Skips (w : List ℕ) (start end : ℕ) : Type 0 where
  pub gone : (x i : ℕ) → start ≤ x → x ≤ i → i < x + cell w SKIP x → i < end → 0 < cell w SKIP i

-- the row of rank x, where it is kept, says f
pub record Says (w : List ℕ) (start x : ℕ) (f : ℕ → ℕ) : Type 0 where
  pub is : cell w SKIP x ≡ 0 → (r : ℕ) → r < 1_024 → marked w (row_at start x) r ≡ f r

-- the row of each rank x says g x more
pub record Marked (start end : ℕ) (g : ℕ → ℕ → ℕ) (old new : List ℕ) : Type 0 where
  pub kept : Kept old new (2_048 * MARKS) (2_048 * SKIP + end)
  pub skips : Skips old start end → Skips new start end
  pub rows : (x : ℕ) → start ≤ x → x < end → (f : ℕ → ℕ) → Says old start x f → Says new start x (λ r. f r + g x r)

-- in every block of these ranks, the rows of ranks lo up to hi say g more
pub record RowsMarked (start lo hi : ℕ) (g : ℕ → ℕ) (old new : List ℕ) : Type 0 where
  pub len : length new ≡ length old
  pub block : (end : ℕ) → Block old start end → Skips old start end → start ≤ lo → hi ≤ end
      → Marked start end (λ x r. between lo hi x * g r) old new

-- a row, and rows, that columns c up to d are to be marked in
pub record RowIn (w : List ℕ) (start x c d : ℕ) : Type 0 where
  pub grid : Grid w
  pub low : start ≤ x
  pub high : x < start + 256
  pub few : x < 1_024
  pub order : c ≤ d
  pub columns : d ≤ 1_024

pub record RowsIn (w : List ℕ) (start lo hi c d : ℕ) : Type 0 where
  pub grid : Grid w
  pub low : start ≤ lo
  pub some : lo < hi
  pub high : hi ≤ start + 256
  pub few : hi ≤ 1_024
  pub order : c ≤ d
  pub columns : d ≤ 1_024

-- the ranks lo up to hi
pub record RanksIn (w : List ℕ) (lo hi : ℕ) : Type 0 where
  pub grid : Grid w
  pub order : lo < hi
  pub few : hi ≤ 1_024

-- the rows of the ranks lo up to x are given up
pub record Gone (w : List ℕ) (lo hi x : ℕ) : Type 0 where
  pub after : lo ≤ x
  pub until : x ≤ hi
  pub gone : (start end : ℕ) → Skips w start end → start ≤ lo → (i : ℕ) → lo ≤ i → i < x → i < end → 0 < cell w SKIP i

-- so that they say whatever is wanted
pub record Passed (lo hi : ℕ) (old new : List ℕ) (x : ℕ) : Type 0 where
  pub len : length new ≡ length old
  pub after : lo ≤ x
  pub until : x ≤ hi
  pub rows : (start : ℕ) (g : ℕ → ℕ) → RowsMarked start lo x g old new

-- the rows of the ranks lo up to x are marked, one at least
pub record Advanced (start lo hi c d : ℕ) (old new : List ℕ) (x : ℕ) : Type 0 where
  pub after : lo < x
  pub until : x ≤ hi
  pub rows : RowsMarked start lo x (between c d) old new

-- 1 where rank i is from x up to y and rank r from c up to d, else 0
unfoldable pub crossing : ℕ → ℕ → ℕ → ℕ → ℕ → ℕ → ℕ
crossing x y c d i r = between x y i * between c d r

-- 1 where pair k covers the holes of ranks x and r, else 0; how many of the first k pairs do
unfoldable pub by_pair : List ℕ → List ℕ → ℕ → ℕ → ℕ → ℕ
by_pair w ps k x r = meeting w x (pair_at ps k) r

unfoldable pub by_pairs : List ℕ → List ℕ → ℕ → ℕ → ℕ → ℕ
by_pairs w ps k x r = meetings w x ps k r

-- rows of a block are to be marked in columns c up to d
pub record BlockIn (w : List ℕ) (start end c d : ℕ) : Type 0 where
  pub block : Block w start end
  pub skips : Skips w start end
  pub order : c ≤ d
  pub columns : d ≤ 1_024

-- pair k, and m pairs of a record of n holes
pub record PairMarking (w ps : List ℕ) (start end k : ℕ) : Type 0 where
  pub block : Block w start end
  pub skips : Skips w start end
  pub spans : PairSpans w ps k
  pub left : cell w FROM (pair_at ps k).0 + cell w HOLES (pair_at ps k).0 ≤ 1_024
  pub right : cell w FROM (pair_at ps k).1 + cell w HOLES (pair_at ps k).1 ≤ 1_024

pub record PairsMarking (w ps : List ℕ) (m start end : ℕ) : Type 0 where
  pub n : ℕ
  pub ready : Ready w ps n m
  pub block : Block w start end
  pub skips : Skips w start end

-- ---- clearing, judging, and all of it

-- every row of the block is kept, and says 0
pub record Blank (start end : ℕ) (old new : List ℕ) : Type 0 where
  pub kept : Kept old new (2_048 * MARKS) (2_048 * SKIP + end)
  pub skips : Skips new start end
  pub rows : (x : ℕ) → start ≤ x → x < end → Says new start x (λ r. 0)

-- n ranks, and rank x of a block
pub record Judging (w : List ℕ) (n start x : ℕ) : Type 0 where
  pub grid : Grid w
  pub low : start ≤ x
  pub high : x < start + 256
  pub within : x < n
  pub few : n ≤ 1_024

-- the row of each rank x from lo up to hi says, where it is kept, 1 at every other rank
pub record Judged (n start lo hi : ℕ) (old new : List ℕ) : Type 0 where
  pub kept : Kept old new (2_048 * SKIP + lo) (2_048 * SKIP + hi)
  pub good : (x : ℕ) → lo ≤ x → x < hi → (f : ℕ → ℕ) → Says old start x f → cell new SKIP x ≡ 0 → (r : ℕ) → r < n → (r ≡ x → ⊥) → f r ≡ 1

pub record JudgingAll (w : List ℕ) (n start end : ℕ) : Type 0 where
  pub block : Block w start end
  pub within : end ≤ n
  pub few : n ≤ 1_024

-- the pairs cover the hole of rank x and each other hole exactly once
pub record Good (w ps : List ℕ) (n m x : ℕ) : Type 0 where
  pub once : (r : ℕ) → r < n → (r ≡ x → ⊥) → meetings w x ps m r ≡ 1

-- every rank from lo up to hi that is kept is good
pub record Sifted (ps : List ℕ) (n m lo hi : ℕ) (old new : List ℕ) : Type 0 where
  pub kept : Kept old new (2_048 * MARKS) (2_048 * SKIP + hi)
  pub good : (x : ℕ) → lo ≤ x → x < hi → cell new SKIP x ≡ 0 → Good old ps n m x

-- every rank that is kept is good
pub record Goods (w ps : List ℕ) (n m : ℕ) : Type 0 where
  pub good : (x : ℕ) → x < n → cell w SKIP x ≡ 0 → Good w ps n m x

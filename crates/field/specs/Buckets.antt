-- Chains of holes on the slate, so that a hole is compared only with those of its bucket, a number that its coordinates make. Cell b of column
-- MARKS begins the chain of bucket b, and cell k of column SCRATCH goes on behind hole k: 0 is the end, and j + 1 stands for hole j. Assumes nothing.
use Rattle.std.specs.Prelude.{◌≡◌, List, [], ◌∷◌, ℕ, ◌+◌, ◌*◌, ◌%◌, ◌<◌, ◌≤◌, length, Option}
use Rattle.words.specs.Area.{word}
use Rattle.slate.specs.Columns.{MARKS, SCRATCH}
use Rattle.slate.specs.Slate.{cell, Grid}
use Rattle.paper.specs.Field.{Hole, hole_at, holes_at}
use Rattle.paper.specs.Rules.{Repeats}
use Rattle.field.specs.Found.{Finds}

-- how many buckets there are
abbrev pub BUCKETS : ℕ
BUCKETS = 2_039

-- one coordinate after another, from b on
unfoldable pub mixed : ℕ → Hole → ℕ
mixed b [] = b
mixed b (c ∷ h) = mixed ((37 * b + c) % BUCKETS) h

-- b is the bucket of the hole of d coordinates at byte o
pub record Bucketed (hs : List ℕ) (d o b : ℕ) : Type 0 where
  pub is : b ≡ mixed 0 (hole_at d hs o)
  pub small : b < BUCKETS

-- hole j is on the chain that c begins
pub data On (w : List ℕ) : ℕ → ℕ → Type 0 where
  here : {c j : ℕ} → c ≡ j + 1 → On w c j
  behind : {c j : ℕ} (k : ℕ) → c ≡ k + 1 → On w (cell w SCRATCH k) j → On w c j

-- each of the first i holes is on the chain of its bucket, and the chains go down among these holes
pub record Chained (hs : List ℕ) (d : ℕ) (w : List ℕ) (i : ℕ) : Type 0 where
  pub grid : Grid w
  pub head : (b : ℕ) → b < BUCKETS → cell w MARKS b ≤ i
  pub next : (k : ℕ) → k < i → cell w SCRATCH k ≤ k
  pub on : (j : ℕ) → j < i → (b : ℕ) → Bucketed hs d (2 * d * j) b → On w (cell w MARKS b) j

-- hole i begins the chain of bucket b, and what began it goes on behind; every other word is as it was
pub record Pushed (old new : List ℕ) (i b : ℕ) : Type 0 where
  pub len : length new ≡ length old
  pub head : cell new MARKS b ≡ i + 1
  pub next : cell new SCRATCH i ≡ cell old MARKS b
  pub rest : (k : ℕ) → (k ≡ 2_048 * MARKS + b → ⊥) → (k ≡ 2_048 * SCRATCH + i → ⊥) → word new k ≡ word old k

-- r is the least repeat among n holes
pub record Searched (hs : List ℕ) (d n : ℕ) (old new : List ℕ) (r : Option ℕ) : Type 0 where
  pub len : length new ≡ length old
  pub found : Finds (Repeats (holes_at d hs 0 n)) n r

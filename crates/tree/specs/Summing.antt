-- What summing up one node needs of the slate, and what it leaves there. Assumes nothing.
use Rattle.std.specs.Prelude.{◌≡◌, List, ℕ, ◌+◌, ◌*◌, ◌<◌, min, length}
use Rattle.words.specs.Area.{word}
use Rattle.slate.specs.Columns.{FIRST, SECOND, HOLES, LOWEST, LOW}
use Rattle.slate.specs.Slate.{cell}
use Rattle.paper.specs.Field.{hole_at}
use Rattle.paper.specs.Tree.{Box, spot, around}
use Rattle.paper.specs.Record.{leaf_mark}
use Rattle.field.specs.Boxes.{HoleIn, NodeOn, box_on}

-- node k has m holes, the lowest of them l; every other word is as it was
pub record SumsPut (old new : List ℕ) (k m l : ℕ) : Type 0 where
  pub len : length new ≡ length old
  pub holes : cell new HOLES k ≡ m
  pub lowest : cell new LOWEST k ≡ l
  pub rest : (i : ℕ) → (i ≡ 2_048 * HOLES + k → ⊥) → (i ≡ 2_048 * LOWEST + k → ⊥) → word new i ≡ word old i

-- node k has m holes, the lowest of them l, and the box B; the other nodes' boxes, and every other word below them, are as they were
pub record Filled (old new : List ℕ) (d k m l : ℕ) (B : Box) : Type 0 where
  pub len : length new ≡ length old
  pub holes : cell new HOLES k ≡ m
  pub lowest : cell new LOWEST k ≡ l
  pub box : box_on new d k ≡ B
  pub others : (j : ℕ) → j < 2_048 → (j ≡ k → ⊥) → box_on new d j ≡ box_on old d j
  pub rest : (i : ℕ) → (i ≡ 2_048 * HOLES + k → ⊥) → (i ≡ 2_048 * LOWEST + k → ⊥) → i < 2_048 * LOW → word new i ≡ word old i

-- nodes i and j are above node k, and the holes under both fit a cell
pub record PartsAbove (w : List ℕ) (k i j : ℕ) : Type 0 where
  pub first : (k < i) × (i < 2_048)
  pub second : (k < j) × (j < 2_048)
  pub fits : cell w HOLES i + cell w HOLES j < 65_536

-- node k has what is under it: as a leaf that holds the hole h, and as a node of the parts i and j
abbrev pub LeafFilled : List ℕ → ℕ → ℕ → ℕ → List ℕ → List ℕ → Type 0
LeafFilled hs d k h old new = Filled old new d k 1 h (spot (hole_at d hs (2 * d * h)))

abbrev pub ForkFilled : ℕ → ℕ → ℕ → ℕ → List ℕ → List ℕ → Type 0
ForkFilled d k i j old new =
    Filled old new d k (cell old HOLES i + cell old HOLES j) (min (cell old LOWEST i) (cell old LOWEST j)) (around (box_on old d i) (box_on old d j))

-- node k can be summed up: as a leaf its hole is there, as any other node its parts are above it
pub record Summable (w hs : List ℕ) (d k : ℕ) : Type 0 where
  pub on : NodeOn w d k
  pub leaf : cell w FIRST k ≡ leaf_mark → HoleIn hs d (cell w SECOND k)
  pub fork : (cell w FIRST k ≡ leaf_mark → ⊥) → PartsAbove w k (cell w FIRST k) (cell w SECOND k)

-- node k is summed up
pub record NodeSummed (hs : List ℕ) (d k : ℕ) (old new : List ℕ) : Type 0 where
  pub leaf : cell old FIRST k ≡ leaf_mark → LeafFilled hs d k (cell old SECOND k) old new
  pub fork : (cell old FIRST k ≡ leaf_mark → ⊥) → ForkFilled d k (cell old FIRST k) (cell old SECOND k) old new

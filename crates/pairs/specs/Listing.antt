-- Listing the pairs of the tree that stands on the slate, by document 01's rule, into an output that may be too short. Assumes nothing.
use Rattle.std.specs.Prelude.{◌≡◌, Bool, List, ◌++◌, map, ℕ, ◌+◌, ◌*◌, ◌<◌, ◌≤◌, length, take, drop}
use Rattle.paper.specs.Lists.{joined}
use Rattle.paper.specs.Tree.{Tree, number, longest}
use Rattle.paper.specs.Separation.{separated}
use Rattle.paper.specs.Pairs.{pairs, numbers}
use Rattle.slate.specs.Columns.{REACH, SIDE, LOW}
use Rattle.slate.specs.Slate.{cell, cells, Grid, Set, CellsSet, Kept}
use Rattle.paper.specs.Record.{nodes_of, two_numbers}
use Rattle.field.specs.Boxes.{Axes, box_on}
use Rattle.field.specs.Reach.{reach}
use Rattle.tree.specs.Standing.{tree_on, Stands}
use Rattle.theory.specs.Trees.{Met, grow}
use Rattle.theory.proofs.Pairing.{Regular}

-- separation and side of two nodes, by the boxes on the slate
unfoldable pub far_on : List ℕ → ℕ → ℕ → ℕ → Tree → Tree → Bool
far_on w d a b A B = separated a b (box_on w d (number A)) (box_on w d (number B))

unfoldable pub long_on : List ℕ → ℕ → Tree → ℕ
long_on w d A = longest (box_on w d (number A))

-- the tree on the slate
abbrev pub grown_on : List ℕ → ℕ → Tree
grown_on w n = grow (tree_on w n) 0

-- what comparisons ask of node k: SIDE has the longest side of its box, and REACH how far it reaches
pub record Shape (w : List ℕ) (d a b k : ℕ) : Type 0 where
  pub side_is : cell w SIDE k ≡ longest (box_on w d k)
  pub reach_is : cells 4 w REACH k ≡ reach a b (box_on w d k)

abbrev pub Shapes : List ℕ → ℕ → ℕ → ℕ → ℕ → Type 0
Shapes w d a b n = (k : ℕ) → k < nodes_of n → Shape w d a b k

-- a tree of n holes with its boxes
pub record Boxes (w : List ℕ) (d n : ℕ) : Type 0 where
  pub grid : Grid w
  pub axes : Axes d
  pub some : 1 ≤ n
  pub few : n ≤ 1_024

-- node k's side is written, and then its reach
pub record ShapePut (d a b k : ℕ) (old new : List ℕ) : Type 0 where
  pub between : List ℕ
  pub side_set : Set old between SIDE k (longest (box_on old d k))
  pub reach_set : CellsSet 4 between new REACH k (reach a b (box_on old d k))

-- the shapes of a tree are written, below the columns of the boxes
pub record ShapesPut (d a b n : ℕ) (old new : List ℕ) : Type 0 where
  pub kept : Kept old new (2_048 * REACH) (2_048 * LOW)
  pub shapes : Shapes new d a b n

-- a tree that may be listed: its nodes are numbered as they are met, a leaf is never split
pub record Listable (w : List ℕ) (d a b n : ℕ) : Type 0 where
  pub stands : Stands w n
  pub axes : Axes d
  pub shapes : Shapes w d a b n
  pub met : Met 0 (grown_on w n)
  pub regular : Regular (far_on w d a b) (long_on w d) (grown_on w n)

-- the pairs by their nodes' numbers
abbrev pub pairs_on : List ℕ → ℕ → ℕ → ℕ → ℕ → List (ℕ × ℕ)
pairs_on w d a b n = map numbers (pairs (far_on w d a b) (long_on w d) (grown_on w n))

-- these pairs, from the place start on: r is the place after the last. Where all of them fit, they are there and nothing else has changed
pub record Listed (ps : List (ℕ × ℕ)) (start : ℕ) (old new : List ℕ) (r : ℕ) : Type 0 where
  pub len : length new ≡ length old
  pub next : r ≡ start + 4 * length ps
  pub there : start + 4 * length ps ≤ length old → new ≡ take start old ++ joined two_numbers ps ++ drop (start + 4 * length ps) old

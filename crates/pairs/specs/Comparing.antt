-- Comparing two nodes of the tree on the slate, and listing what comes of it. Assumes nothing.
use Rattle.std.specs.Prelude.{◌≡◌, List, [], ◌++◌, map, ℕ, zero, suc, ◌+◌, ◌*◌, ◌<◌, ◌≤◌, length}
use Rattle.words.specs.Words.{Written}
use Rattle.slate.specs.Columns.{FIRST, SECOND, SIDE}
use Rattle.slate.specs.Slate.{cell}
use Rattle.paper.specs.Lists.{joined}
use Rattle.paper.specs.Tree.{Tree, leaf, fork}
use Rattle.paper.specs.Pairs.{numbers}
use Rattle.paper.specs.Record.{nodes_of, two_numbers}
use Rattle.tree.specs.Standing.{tree_on}
use Rattle.theory.specs.Trees.{grow}
use Rattle.theory.proofs.Subtrees.{Facing}
use Rattle.theory.proofs.PairRules.{listed_by}
use Rattle.pairs.specs.Listing.{far_on, long_on, grown_on, Listable}

-- node k of the tree on the slate, with all that is under it
abbrev pub node_on : List ℕ → ℕ → ℕ → Tree
node_on w n k = grow (tree_on w n) k

-- the pairs that a comparison of nodes i and j lists
unfoldable pub compared_on : List ℕ → ℕ → ℕ → ℕ → ℕ → ℕ → ℕ → List (ℕ × ℕ)
compared_on w d a b n i j = map numbers (listed_by (far_on w d a b) (long_on w d) (node_on w n i) (node_on w n j))

-- the pairs that a node lists, by the comparison of its two parts: a leaf none
abbrev pub of_parts : List ℕ → ℕ → ℕ → ℕ → Tree → List (ℕ × ℕ)
of_parts w d a b (leaf k x) = []
of_parts w d a b (fork k s t) = map numbers (listed_by (far_on w d a b) (long_on w d) s t)

unfoldable pub node_pairs : List ℕ → ℕ → ℕ → ℕ → ℕ → ℕ → List (ℕ × ℕ)
node_pairs w d a b n k = of_parts w d a b (node_on w n k)

-- the pairs that the nodes below k list, in number order
unfoldable pub pairs_below : List ℕ → ℕ → ℕ → ℕ → ℕ → ℕ → List (ℕ × ℕ)
pairs_below w d a b n zero = []
pairs_below w d a b n (suc k) = pairs_below w d a b n k ++ node_pairs w d a b n k

-- two nodes that face each other
pub record Faces (w : List ℕ) (d a b n i j : ℕ) : Type 0 where
  pub listable : Listable w d a b n
  pub left : i < nodes_of n
  pub right : j < nodes_of n
  pub facing : Facing (grown_on w n) (node_on w n i) (node_on w n j)

-- the two comparisons that take the place of theirs: the node with the longer side is split, node j on a tie
pub record Halves (w : List ℕ) (i j : ℕ) (r : (ℕ × ℕ) × (ℕ × ℕ)) : Type 0 where
  pub first : cell w SIDE j < cell w SIDE i → r ≡ ((cell w FIRST i, j), (cell w SECOND i, j))
  pub second : cell w SIDE i ≤ cell w SIDE j → r ≡ ((i, cell w FIRST j), (i, cell w SECOND j))

-- two nodes may be compared at a place: the place after the pairs is no large number
pub record Comparing (w : List ℕ) (d a b n i j at : ℕ) : Type 0 where
  pub faces : Faces w d a b n i j
  pub room : at + 4 * length (compared_on w d a b n i j) ≤ 1_099_511_627_776

pub record NodeListing (w : List ℕ) (d a b n k at : ℕ) : Type 0 where
  pub listable : Listable w d a b n
  pub node : k < nodes_of n
  pub room : at + 4 * length (node_pairs w d a b n k) ≤ 1_099_511_627_776

-- these pairs, from the place start on: r is the place after the last. Where all of them fit, they are written there
pub record Laid (ps : List (ℕ × ℕ)) (start : ℕ) (old new : List ℕ) (r : ℕ) : Type 0 where
  pub len : length new ≡ length old
  pub next : r ≡ start + 4 * length ps
  pub there : start + 4 * length ps ≤ length old → Written old new start (joined two_numbers ps)

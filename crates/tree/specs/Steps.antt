-- What each step over the tree leaves on the slate. Assumes nothing.
use Rattle.std.specs.Prelude.{◌≡◌, ◌↔◌, List, ℕ, ◌+◌, ◌*◌, ◌<◌, ◌≤◌, length, get_or, take, drop, Option, None}
use Rattle.words.specs.Area.{word}
use Rattle.slate.specs.Columns.{HOLES, LOWEST, FROM, ORDER, RANK, MARKS, LOW}
use Rattle.slate.specs.Slate.{cell, column, Grid}
use Rattle.paper.specs.Field.{holes_at}
use Rattle.paper.specs.Tree.{box_at}
use Rattle.paper.specs.Record.{nodes_of}
use Rattle.paper.specs.Rules.{Names, NodeRule, under_node}
use Rattle.paper.specs.Questions.{lowest}
use Rattle.theory.specs.Trees.{Alike}
use Rattle.field.specs.Boxes.{box_on}
use Rattle.field.specs.Found.{Finds}
use Rattle.tree.specs.Standing.{tree_on, tree_in}

-- there are the nodes of a tree of n holes in a list of bytes, and room for them on the slate
pub record NodesIn (w ns : List ℕ) (n : ℕ) : Type 0 where
  pub grid : Grid w
  pub some : 1 ≤ n
  pub few : n ≤ 1_024
  pub all : 4 * nodes_of n ≤ length ns

-- loading: the least node that breaks its rule, or the tree stands, and a node's mark is 0 exactly where no node names it
pub record Loading (ns : List ℕ) (n : ℕ) (old new : List ℕ) (r : Option ℕ) : Type 0 where
  pub len : length new ≡ length old
  pub found : Finds (λ k. NodeRule (tree_in ns n) k → ⊥) (nodes_of n) r
  pub tree : r ≡ None → Alike (tree_in ns n) (tree_on new n)
  pub marks : r ≡ None → (k : ℕ) → k < nodes_of n → cell new MARKS k ≡ 0 ↔ ((j : ℕ) → j < nodes_of n → Names (tree_in ns n) j k → ⊥)

-- summing up: how many holes are under each node, the lowest of them, and their box. Beside these columns nothing has changed
pub record Summed (hs : List ℕ) (d n : ℕ) (old new : List ℕ) : Type 0 where
  pub len : length new ≡ length old
  pub holes : (k : ℕ) → k < nodes_of n → cell new HOLES k ≡ length (under_node (tree_on old n) k)
  pub lowest : (k : ℕ) → k < nodes_of n → cell new LOWEST k ≡ lowest (under_node (tree_on old n) k)
  pub box : (k : ℕ) → k < nodes_of n → box_on new d k ≡ box_at (holes_at d hs 0 n) (under_node (tree_on old n) k)
  pub rest : (i : ℕ) → (2_048 * HOLES ≤ i → i < 2_048 * FROM → ⊥) → i < 2_048 * LOW → word new i ≡ word old i

-- the number of holes under each node is on the slate
abbrev pub Counted : List ℕ → ℕ → Type 0
Counted w n = (k : ℕ) → k < nodes_of n → cell w HOLES k ≡ length (under_node (tree_on w n) k)

-- ranking: the holes in the order in which they are under the root; each node's are a stretch of it; each hole's place in it.
-- Beside these columns nothing has changed
pub record Ranked (n : ℕ) (old new : List ℕ) : Type 0 where
  pub len : length new ≡ length old
  pub order : column new ORDER n ≡ under_node (tree_on old n) 0
  pub fits : (k : ℕ) → k < nodes_of n → cell new FROM k + cell old HOLES k ≤ n
  pub stretch : (k : ℕ) → k < nodes_of n → under_node (tree_on old n) k ≡ take (cell old HOLES k) (drop (cell new FROM k) (under_node (tree_on old n) 0))
  pub rank : (h : ℕ) → h < n → cell new RANK h < n
  pub place : (h : ℕ) → h < n → get_or (under_node (tree_on old n) 0) (cell new RANK h) 0 ≡ h
  pub rest : (i : ℕ) → (2_048 * FROM ≤ i → i < 2_048 * MARKS → ⊥) → word new i ≡ word old i

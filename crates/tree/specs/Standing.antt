-- A tree on the slate, and a tree in a list of bytes, as views of n holes of which nothing else is known. Assumes nothing.
use Rattle.std.specs.Prelude.{List, [], map, ℕ, ◌<◌, ◌≤◌}
use Rattle.slate.specs.Columns.{FIRST, SECOND}
use Rattle.slate.specs.Slate.{cell, Grid}
use Rattle.paper.specs.Lists.{below}
use Rattle.paper.specs.Field.{Field, list_at}
use Rattle.paper.specs.Record.{View, nodes_of, two_numbers_at}
use Rattle.paper.specs.Rules.{NodeRule, node_count}

-- n holes of which only the number is known
unfoldable pub blank : ℕ → Field
blank n = map (λ i. []) (below n)

-- the tree on the slate: FIRST and SECOND of each node
unfoldable pub tree_on : List ℕ → ℕ → View
tree_on w n =
    record { a = 0; b = 0; holes = blank n; nodes = map (λ k. (cell w FIRST k, cell w SECOND k)) (below (nodes_of n)); pairs = [] }

-- the tree in a record's nodes
unfoldable pub tree_in : List ℕ → ℕ → View
tree_in ns n = record { a = 0; b = 0; holes = blank n; nodes = list_at two_numbers_at 4 ns 0 (nodes_of n); pairs = [] }

-- a tree of n holes stands on the slate: its nodes meet their rules
pub record Stands (w : List ℕ) (n : ℕ) : Type 0 where
  pub grid : Grid w
  pub some : 1 ≤ n
  pub few : n ≤ 1_024
  pub rules : (k : ℕ) → k < node_count (tree_on w n) → NodeRule (tree_on w n) k

-- A tree that stands on the slate, by its cells: FIRST and SECOND say what is under each node, and a step that leaves them leaves the tree.
-- Assumes nothing.
use mathlib.Core.Path.{◌≡◌}
use mathlib.Core.List.{List, [], ◌∷◌, ◌++◌}
use Prim.Native.Nat.{ℕ, ◌*◌, ◌≤◌, ◌<◌}
use native.Mathlib.Omega.{arith}
use lib.ListN.{length}
use Rattle.words.specs.Area.{word}
use Rattle.slate.specs.Columns.{FIRST, SECOND, HOLES}
use Rattle.slate.specs.Slate.{cell}
use Rattle.paper.specs.Record.{leaf_mark, nodes_of}
use Rattle.paper.specs.Rules.{node_count, PartRule, ForkRule, under_node}
use Rattle.theory.proofs.Grown.{under_leaf, under_fork, some_under}
use Rattle.tree.specs.Standing.{tree_on, Stands}
use Rattle.tree.proofs.Views.{on_holes, on_node, same-tree}
use Rattle.tree.proofs.UnderLength.{under-length}

-- ---- what is under node k

-- node c, one of its parts, is above it
pub record PartOn (n k c : ℕ) : Type 0 where
  pub above : k < c
  pub node : c < nodes_of n

module _ {w : List ℕ} {n : ℕ} (s : Stands w n) (k : ℕ) (b : k < nodes_of n) where
  in_tree : k < node_count (tree_on w n)
  in_tree = omega (arith, on_holes w n)

  pub under_some : 1 ≤ length (under_node (tree_on w n) k)
  under_some = some_under (tree_on w n) s.rules k in_tree

  pub under_few : length (under_node (tree_on w n) k) ≤ n
  under_few = omega (arith, under-length (tree_on w n) s.rules k in_tree, on_holes w n)

  -- a leaf
  pub leaf_hole : cell w FIRST k ≡ leaf_mark → cell w SECOND k < n
  leaf_hole e = rw (on_node w n k b, on_holes w n) at ((s.rules k in_tree).leaf (rw (on_node w n k b) e)).hole

  pub leaf_under : cell w FIRST k ≡ leaf_mark → under_node (tree_on w n) k ≡ cell w SECOND k ∷ []
  leaf_under e = rw (on_node w n k b) at (under_leaf (tree_on w n) k in_tree (rw (on_node w n k b) e))

  -- any other node
  fork_rule : (cell w FIRST k ≡ leaf_mark → ⊥) → ForkRule (tree_on w n) k
  fork_rule f = (s.rules k in_tree).fork (rw (on_node w n k b) f)

  part_on : {c : ℕ} → PartRule (tree_on w n) k c → PartOn n k c
  part_on r = record { above = r.above; node = omega (arith, r.node, on_holes w n) }

  pub first_on : (cell w FIRST k ≡ leaf_mark → ⊥) → PartOn n k (cell w FIRST k)
  first_on f = part_on (rw (on_node w n k b) at (fork_rule f).first)

  pub second_on : (cell w FIRST k ≡ leaf_mark → ⊥) → PartOn n k (cell w SECOND k)
  second_on f = part_on (rw (on_node w n k b) at (fork_rule f).second)

  pub fork_under : (cell w FIRST k ≡ leaf_mark → ⊥)
      → under_node (tree_on w n) k ≡ under_node (tree_on w n) (cell w FIRST k) ++ under_node (tree_on w n) (cell w SECOND k)
  fork_under f = rw (on_node w n k b) at (under_fork (tree_on w n) s.rules k in_tree (rw (on_node w n k b) f))

-- ---- a step that leaves the columns below HOLES

module _ (new old : List ℕ) (left : (i : ℕ) → i < 2_048 * HOLES → word new i ≡ word old i) where
  pub left_tree : (n : ℕ) → n ≤ 1_024 → tree_on new n ≡ tree_on old n
  left_tree n l = same-tree new old n (λ k b. left _ (omega arith)) (λ k b. left _ (omega arith))

  pub left_stands : {n : ℕ} → length new ≡ length old → Stands old n → Stands new n
  left_stands {n} e s = record { grid = omega (arith, s.grid); some = s.some; few = s.few; rules = rw (left_tree n s.few) s.rules }

-- Loading, node by node. A node has no mark exactly where no node below k names it, and a hole where no leaf below k does; so what the marks let
-- pass is what the rule of node k lets pass, and a node that is taken marks what it names and nothing else. Assumes nothing.
use borrow.Author.Rules.{rules}
use Rattle.std.proofs.lemmas.Grind.{common_steps}
use mathlib.Core.Path.{◌≡◌}
use mathlib.Core.Logic.{◌↔◌}
use mathlib.Core.Bool.{Bool}
use mathlib.Core.List.{List}
use Prim.Native.Nat.{ℕ, ◌+◌, ◌<◌, ◌≤◌}
use native.Mathlib.Omega.{arith}
use Rattle.slate.specs.Columns.{MARKS, SCRATCH}
use Rattle.paper.specs.Record.{View, leaf_mark}
use Rattle.paper.specs.Rules.{hole_count, node_count, node, Leaf, NodeRule}
use Rattle.tree.specs.Loading.{Tries, Holdable, BothNameable, Marked, LoadedTo}

-- a step, by another name for its condition
pub tries_as : {P Q P' Q' : Type 0} {old new : List ℕ} {r : Bool} → (P ↔ P') → (P' → Q → Q') → Tries P Q old new r → Tries P' Q' old new r
tries_as c f t = grind arith

-- ---- the nodes below k are loaded

module _ {v : View} {n k : ℕ} {w : List ℕ} (e : hole_count v ≡ n) (d : LoadedTo v k w) where
  -- what the marks let pass is what the rule lets pass: a leaf, a part, and two parts
  pub leaf_rule : Leaf v k → Holdable w n (node v k).1 ↔ NodeRule v k
  leaf_rule f = grind (arith, common_steps)

  pub fork_rule : (Leaf v k → ⊥) → BothNameable w n k (node v k).0 (node v k).1 ↔ NodeRule v k
  fork_rule f = grind (arith, common_steps)

  module _ {w' : List ℕ} (few : n ≤ 1_024) (l : k < node_count v) (r : NodeRule v k) where
    -- a leaf marks its hole, and no node
    pub leaf-turn : Leaf v k → Marked w w' k leaf_mark (node v k).1 SCRATCH (node v k).1 (node v k).1 → LoadedTo v (k + 1) w'
    leaf-turn f s = search (rules, arith)

    -- any other node marks its two parts, and no hole
    pub fork-turn : (Leaf v k → ⊥) → Marked w w' k (node v k).0 (node v k).1 MARKS (node v k).0 (node v k).1 → LoadedTo v (k + 1) w'
    fork-turn f s = search (rules, arith)

-- The two numbers of node k are the record's, so what is taken by the marks is what meets its rule. Assumes nothing.
use Rattle.std.proofs.lemmas.Grind.{common_steps}
use mathlib.Core.Path.{◌≡◌, sym, ◌∙◌}
use mathlib.Core.Bool.{Bool}
use mathlib.Core.List.{List}
use Prim.Native.Nat.{ℕ, ◌*◌, ◌<◌}
use native.Mathlib.Omega.{arith}
use Rattle.paper.specs.Record.{two_numbers_at}
use Rattle.paper.specs.Rules.{node_count, node, Leaf}
use Rattle.tree.specs.Standing.{tree_in}
use Rattle.tree.specs.Loading.{Next, LeafTried, ForkTried, NodeTried}
use Rattle.tree.specs.Nodes.{IsNode}
use Rattle.tree.specs.declared.Node.TheVariants as is
use Rattle.tree.proofs.Views.{in_holes, in_node}
use Rattle.tree.proofs.LoadTurns.{tries_as, leaf_rule, fork_rule, leaf-turn, fork-turn}
use Rattle.tree.proofs.load_node.Goals as goal

module _ {ns old : List ℕ} {n k : ℕ} {two : ℕ × ℕ} (x : Next ns n k old) (r : two ≡ two_numbers_at ns (4 * k)) where
  read : two ≡ node (tree_in ns n) k
  read = r ∙ sym (in_node ns n k x.row.node)

  there : k < node_count (tree_in ns n)
  there = omega (arith, in_holes ns n)

  a_leaf : {new : List ℕ} {h : ℕ} {r : Bool} → IsNode two.0 two.1 (is.Leaf h) → LeafTried n k h old new r → NodeTried ns n k old new r
  a_leaf e t = grind (arith, common_steps, read, there, tries_as, leaf_rule, in_holes, leaf-turn)

  a_fork : {new : List ℕ} {i j : ℕ} {r : Bool} → IsNode two.0 two.1 (is.Fork i j) → ForkTried n k i j old new r → NodeTried ns n k old new r
  a_fork e t =
      let f : Leaf (tree_in ns n) k → ⊥ = rw read at e.0 in
      tries_as (fork_rule (in_holes ns n) x.loaded f)
      (λ u. fork-turn (in_holes ns n) x.loaded x.row.few there u f) (rw (e.1, e.2, read) at t)

pub returns-in-Leaf : goal.returns-in-Leaf
returns-in-Leaf c = a_leaf c.requires c.two_numbers_at.ensures.is c.in-Leaf.ensures c.load_leaf.ensures

pub returns-in-Fork : goal.returns-in-Fork
returns-in-Fork c = a_fork c.requires c.two_numbers_at.ensures.is c.in-Fork.ensures c.load_fork.ensures

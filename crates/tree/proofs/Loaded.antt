-- What a record that is loaded to the end gives: its tree stands on the slate, since there are the same nodes in both places; and a node has
-- no mark exactly where no node names it. Assumes nothing.
use mathlib.Core.Path.{◌≡◌, refl}
use mathlib.Core.Logic.{◌↔◌}
use mathlib.Core.List.{List}
use Prim.Native.Nat.{ℕ, ◌<◌, ◌≤◌}
use native.Mathlib.Omega.{arith}
use Rattle.slate.specs.Columns.{MARKS}
use Rattle.slate.specs.Slate.{cell, Grid}
use Rattle.paper.specs.Record.{nodes_of}
use Rattle.paper.specs.Rules.{node_ok, Names, NodeRule}
use Rattle.paper.proofs.ListLaws.{both, cases}
use Rattle.theory.proofs.Statements.{node_is}
use Rattle.theory.proofs.Alike.{alike-rules}
use Rattle.std.specs.Prelude.{None}
use Rattle.tree.specs.Standing.{tree_on, tree_in, Stands}
use Rattle.tree.specs.Steps.{Loading}
use Rattle.tree.proofs.Views.{in_holes, on_holes}

module _ {ns old new : List ℕ} {n : ℕ} (d : Loading ns n old new None) where
  -- the nodes meet their rules, in the record and on the slate: where the test of a rule failed, loading would have stopped
  pub rules_in : (k : ℕ) → k < nodes_of n → NodeRule (tree_in ns n) k
  rules_in k l =
      cases (node_ok (tree_in ns n) k) (node_is (tree_in ns n) k).0 (λ e. absurd (d.found k l (λ r. both ((node_is (tree_in ns n) k).1 r) e)))

  pub rules_on : (k : ℕ) → k < nodes_of n → NodeRule (tree_on new n) k
  rules_on k l = alike-rules (d.tree refl) (λ j b. rules_in j (omega (arith, in_holes ns n))) k (omega (arith, on_holes new n))

  pub stands : Grid new → 1 ≤ n → n ≤ 1_024 → Stands new n
  stands g s f = record { grid = g; some = s; few = f; rules = λ k l. rules_on k (omega (arith, on_holes new n)) }

  -- what `loose` looks for is a node above 0 that no node names
  pub loose_is : (k : ℕ) → k < nodes_of n
      → ((0 < k) × (cell new MARKS k ≡ 0)) ↔ ((0 < k) × ((j : ℕ) → j < nodes_of n → Names (tree_in ns n) j k → ⊥))
  loose_is k l = (λ p. (p.0, (d.marks refl k l).0 p.1), λ p. (p.0, (d.marks refl k l).1 p.1))

-- What ranking gives its callers. A hole is under a node exactly where its rank is in the node's stretch, for each hole has one place in the
-- order; and the tree is the same. Assumes nothing.
use mathlib.Core.Path.{◌≡◌, sym, ◌∙◌}
use mathlib.Core.Logic.{◌↔◌}
use mathlib.Core.List.{List}
use Prim.Native.Nat.{ℕ, ◌+◌, ◌-◌, ◌≤◌, ◌<◌}
use native.Mathlib.Omega.{arith}
use lib.ListN.{get_or}
use lib.Seq.{get_or-take, get_or-drop}
use Rattle.slate.specs.Columns.{HOLES, FROM, RANK}
use Rattle.slate.specs.Slate.{cell}
use Rattle.paper.specs.Record.{nodes_of}
use Rattle.paper.specs.Rules.{under_node, Under}
use Rattle.theory.proofs.Foreign.{under_at_most}
use Rattle.tree.specs.Standing.{tree_on, Stands}
use Rattle.tree.specs.Steps.{Counted, Ranked}
use Rattle.tree.proofs.Views.{on_holes, same-tree}
use Rattle.tree.proofs.Places.{place_of, at_place, one_place, all_under}

module _ {n : ℕ} {old new : List ℕ} (s : Stands old n) (r : Ranked n old new) where
  pub ranked_tree : tree_on new n ≡ tree_on old n
  ranked_tree = same-tree new old n (λ k b. r.rest _ (omega arith)) (λ k b. r.rest _ (omega arith))

  pub ranked_holes : (k : ℕ) → k < nodes_of n → cell new HOLES k ≡ cell old HOLES k
  ranked_holes k b = r.rest _ (omega arith)

  pub ranked_stands : Stands new n
  ranked_stands = record { grid = omega (arith, r.len); some = s.some; few = s.few; rules = rw ranked_tree s.rules }

  pub ranked_counted : Counted old n → Counted new n
  ranked_counted c = rw ranked_tree (λ k b. rw (ranked_holes k b) (c k b))

module _ {n : ℕ} {old new : List ℕ} (s : Stands old n) (counted : Counted old n) (r : Ranked n old new) (k : ℕ) (b : k < nodes_of n) where
  -- place i of node k's holes is place FROM k + i of all
  at_stretch : (i : ℕ) → i < cell old HOLES k
      → get_or (under_node (tree_on old n) k) i 0 ≡ get_or (under_node (tree_on old n) 0) (cell new FROM k + i) 0
  at_stretch i l = rw (r.stretch k b, get_or-take, get_or-drop)

  -- the hole of each rank in the stretch is under the node
  pub rank_under : (i : ℕ) → cell new FROM k ≤ i → i < cell new FROM k + cell old HOLES k → Under (tree_on old n) (get_or (under_node (tree_on old n) 0) i 0) k
  rank_under i x y =
      let l = under_node (tree_on old n) k in
      let j : ℕ = i - cell new FROM k in
      let f : cell new FROM k + j ≡ i = omega arith in
      let e : get_or l j 0 ≡ get_or (under_node (tree_on old n) 0) i 0 = at_stretch j (omega arith) ∙ rw f in
      rw e at (at_place l j (omega (arith, counted k b)))

module _ {n : ℕ} {old new : List ℕ} (s : Stands old n) (counted : Counted old n) (r : Ranked n old new) (h k : ℕ) (a : h < n)
    (b : k < nodes_of n) where
  pub under_rank : Under (tree_on old n) h k ↔ (cell new FROM k ≤ cell new RANK h) × (cell new RANK h < cell new FROM k + cell old HOLES k)
  under_rank = (
    λ m.
        let t = tree_on old n in
        let c = on_holes old n in
        let e = all_under t s.rules (omega arith) in
        let p = place_of (under_node t k) m in
        let l : p.0 < cell old HOLES k = omega (arith, p.1, counted k b) in
        let f = r.fits k b in
        let g = r.rank h a in
        let o = under_at_most t s.rules 0 (omega arith) h in
        let q : get_or (under_node t 0) (cell new FROM k + p.0) 0 ≡ h = sym (at_stretch s counted r k b p.0 l) ∙ p.2 in
        let z = one_place (under_node t 0) o (cell new RANK h) (cell new FROM k + p.0) (omega arith) (omega arith) (r.place h a) q in
        (omega arith, omega arith),
    λ w. rw (r.place h a) at (rank_under s counted r k b (cell new RANK h) w.0 w.1),
  )

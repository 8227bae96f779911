-- A record's tree without its fuel: parts have higher numbers, so where each node meets its rule the node count is fuel enough, and the
-- holes under a node are those under its first part, then those under its second. Assumes nothing.
use mathlib.Core.Path.{◌≡◌, refl, sym, ap₂}
use mathlib.Core.Logic.{◌↔◌, ⊎_elim}
use mathlib.Core.List.Memᴰ
use mathlib.Core.List.{[], ◌∷◌, ◌++◌}
use Prim.Native.Nat.{ℕ, zero, suc, ◌+◌, ◌≤◌, ◌<◌}
use native.Mathlib.Omega.{arith}
use lib.ListN.{length, length-append}
use borrow.Author.Tests.{eq-eqb, ne_eqb}
use Rattle.paper.specs.Tree.{Tree, leaf, fork, number, under}
use Rattle.paper.specs.Record.{View}
use Rattle.paper.specs.Rules.{hole_count, node_count, node, is_leaf, Leaf, Names, NodeRule, under_from, under_node, Under}
use Rattle.paper.proofs.ListLaws.{by_case}
use Rattle.theory.specs.Trees.{leaves, often, grow_from, grow}
use Rattle.theory.proofs.Often.{often-append, often_is}
use Rattle.theory.proofs.Named.{kind}

length-under : (t : Tree) → length (under t) ≡ leaves t
unfolding under leaves
length-under (leaf k x) = refl
length-under (fork k a b) = rw (length-append, length-under a, length-under b)

number-from : (v : View) (f k : ℕ) → number (grow_from v f k) ≡ k
unfolding number grow_from
number-from v zero k = refl
number-from v (suc f) k = by_case (λ t. number t ≡ k) (is_leaf v k) (λ e. refl) (λ e. refl)

pub number-grow : (v : View) (k : ℕ) → number (grow v k) ≡ k
unfolding grow
number-grow v k = number-from v (node_count v) k

-- a leaf
module _ (v : View) where
  leaf_from : (f k : ℕ) → 1 ≤ f → Leaf v k → (grow_from v f k ≡ leaf k (node v k).1) × (under_from v f k ≡ (node v k).1 ∷ [])
  unfolding grow_from under_from
  leaf_from zero k b l = absurd (omega arith)
  leaf_from (suc f) k b l = (rw (eq-eqb _ _ l, grow_from), rw (eq-eqb _ _ l, under_from))

  pub grow_leaf : (k : ℕ) → k < node_count v → Leaf v k → grow v k ≡ leaf k (node v k).1
  unfolding grow
  grow_leaf k b l = (leaf_from (node_count v) k (omega arith) l).0

  pub under_leaf : (k : ℕ) → k < node_count v → Leaf v k → under_node v k ≡ (node v k).1 ∷ []
  unfolding under_node
  under_leaf k b l = (leaf_from (node_count v) k (omega arith) l).1

module _ (v : View) (rules : (k : ℕ) → k < node_count v → NodeRule v k) where
  -- from the last node down, with fuel f that reaches the last node from node k
  by_fuel : (P : ℕ → ℕ → Type 0) → ((f k : ℕ) → k < node_count v → Leaf v k → P (suc f) k)
      → ((f k : ℕ) → k < node_count v → (Leaf v k → ⊥) → P f (node v k).0 → P f (node v k).1 → P (suc f) k)
      → (f k : ℕ) → k < node_count v → node_count v ≤ k + f → P f k
  by_fuel P on-leaf on-fork zero k b enough = absurd (omega arith)
  by_fuel P on-leaf on-fork (suc f) k b enough =
      kind v k (on-leaf f k b)
      (λ i.
      let r = (rules k b).fork i in
      on-fork f k b i
      (by_fuel P on-leaf on-fork f (node v k).0 r.first.node (omega (arith, r.first.above)))
      (by_fuel P on-leaf on-fork f (node v k).1 r.second.node (omega (arith, r.second.above))))

  -- what holds of the leaves, and of a node where it holds of its two parts, holds of every node
  pub parts_first : (P : ℕ → Type 0) → ((k : ℕ) → k < node_count v → Leaf v k → P k)
      → ((k : ℕ) → k < node_count v → (Leaf v k → ⊥) → P (node v k).0 → P (node v k).1 → P k)
      → (k : ℕ) → k < node_count v → P k
  parts_first P on-leaf on-fork k b = by_fuel (λ f. P) (λ f. on-leaf) (λ f. on-fork) (node_count v) k b (omega arith)

  -- the tree below a node
  stable : (f k : ℕ) → k < node_count v → node_count v ≤ k + f → grow_from v (suc f) k ≡ grow_from v f k
  unfolding grow_from
  stable =
      by_fuel (λ f k. grow_from v (suc f) k ≡ grow_from v f k)
      (λ f k b l. rw (eq-eqb _ _ l, grow_from))
      (λ f k b i p q. rw (ne_eqb _ _ i, grow_from) (ap₂ (fork k) p q))

  fork_from : (f k : ℕ) → k < node_count v → node_count v ≤ f → (Leaf v k → ⊥)
      → grow_from v f k ≡ fork k (grow_from v f (node v k).0) (grow_from v f (node v k).1)
  unfolding grow_from
  fork_from zero k b enough i = absurd (omega arith)
  fork_from (suc f) k b enough i =
      let r = (rules k b).fork i in
      rw (
        stable f (node v k).0 r.first.node (omega (arith, r.first.above)),
        stable f (node v k).1 r.second.node (omega (arith, r.second.above)),
        ne_eqb _ _ i,
        grow_from,
      )

  pub grow_fork : (k : ℕ) → k < node_count v → (Leaf v k → ⊥) → grow v k ≡ fork k (grow v (node v k).0) (grow v (node v k).1)
  unfolding grow
  grow_fork k b i = fork_from (node_count v) k b (omega arith) i

  -- the holes under a node
  under_from_is : (f k : ℕ) → k < node_count v → node_count v ≤ k + f → under (grow_from v f k) ≡ under_from v f k
  unfolding under grow_from under_from
  under_from_is =
      by_fuel (λ f k. under (grow_from v f k) ≡ under_from v f k)
      (λ f k b l. rw (eq-eqb _ _ l, grow_from, under_from))
      (λ f k b i p q. rw (ne_eqb _ _ i, grow_from, under_from) (ap₂ ◌++◌ p q))

  pub under-grow : (k : ℕ) → k < node_count v → under (grow v k) ≡ under_node v k
  unfolding grow under_node
  under-grow k b = under_from_is (node_count v) k b (omega arith)

  pub leaves-grow : (k : ℕ) → k < node_count v → leaves (grow v k) ≡ length (under_node v k)
  leaves-grow k b = rw (← under-grow k b) (sym (length-under (grow v k)))

  pub under_fork : (k : ℕ) → k < node_count v → (Leaf v k → ⊥) → under_node v k ≡ under_node v (node v k).0 ++ under_node v (node v k).1
  unfolding under
  under_fork k b i =
      let r = (rules k b).fork i in
      rw (← under-grow k b, grow_fork k b i) (ap₂ ◌++◌ (under-grow (node v k).0 r.first.node) (under-grow (node v k).1 r.second.node))

  -- a node has at least one hole, and a leaf alone has one
  pub some_under : (k : ℕ) → k < node_count v → 1 ≤ length (under_node v k)
  some_under =
      parts_first (λ k. 1 ≤ length (under_node v k))
      (λ k b l. rw (under_leaf v k b l) (omega arith))
      (λ k b i p q. rw (under_fork k b i, length-append) (omega arith))

  pub one_hole : (k : ℕ) → k < node_count v → length (under_node v k) ≡ 1 ↔ Leaf v k
  one_hole k b = (
    λ e.
        kind v k (λ l. l)
        (λ i.
        let r = (rules k b).fork i in
        absurd (omega (arith, rw (under_fork k b i, length-append) at e, some_under _ r.first.node, some_under _ r.second.node))),
    λ l. rw (under_leaf v k b l),
  )

  -- the holes under a node are below n
  pub under-below : (k : ℕ) → k < node_count v → (h : ℕ) → Under v h k → h < hole_count v
  under-below =
      parts_first (λ k. (h : ℕ) → Under v h k → h < hole_count v)
      (λ k b l h m. rw (Memᴰ.eq_of_singleton (rw (under_leaf v k b l) at m)) ((rules k b).leaf l).hole)
      (λ k b i p q h m. ⊎_elim (p h) (q h) (Memᴰ.append_cases (under_node v (node v k).0) (rw (under_fork k b i) at m)))

  -- a node has each hole as often as its two parts have it, so a part's holes are among those of the node that names it
  pub often_fork : (k : ℕ) → k < node_count v → (Leaf v k → ⊥) → (h : ℕ)
      → often h (under_node v k) ≡ often h (under_node v (node v k).0) + often h (under_node v (node v k).1)
  often_fork k b i h = rw (under_fork k b i) (often-append h _ _)

  pub part_often : (j k : ℕ) → j < node_count v → Names v j k → (h : ℕ) → often h (under_node v k) ≤ often h (under_node v j)
  part_often j k b n h =
      let e = often_fork j b n.0 h in
      ⊎_elim (λ q. rw (← q) (omega arith)) (λ q. rw (← q) (omega arith)) n.1

  pub part_under : (j k : ℕ) → j < node_count v → Names v j k → (h : ℕ) → Under v h k → Under v h j
  part_under j k b n h m = (often_is h (under_node v j)).0 (omega (arith, (often_is h (under_node v k)).1 m, part_often j k b n h))

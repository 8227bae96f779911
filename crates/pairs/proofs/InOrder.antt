-- Each node that is no leaf compares its two parts, in number order. Nodes are numbered as they are met, so the pairs of a node and of all
-- nodes under it are those of the nodes from its number on, as many as there are under it. By induction on the tree. Assumes nothing.
use Rattle.std.proofs.lemmas.Grind.{common_steps}
use mathlib.Core.Path.{◌≡◌, refl, sym, ap, ◌∙◌}
use mathlib.Core.Logic.{⊎_elim}
use mathlib.Core.List.{List, [], ◌++◌, map, map-append, append_assoc}
use Prim.Native.Nat.{ℕ, zero, suc, ◌+◌, ◌*◌, ◌≤◌, ◌<◌}
use native.Mathlib.Nat.{mul-le-mul}
use native.Mathlib.Numerals.{add-one}
use native.Mathlib.Omega.{arith}
use lib.Dec.{eqb}
use lib.ListN.{length, length-append}
use borrow.Author.Tests.{eqb-true, eqb-false}
use Rattle.slate.specs.Columns.{FIRST, SECOND}
use Rattle.slate.specs.Slate.{cell}
use Rattle.paper.specs.Tree.{Tree, leaf, fork, number}
use Rattle.paper.specs.Pairs.{pairs, numbers}
use Rattle.paper.specs.Record.{nodes_of, leaf_mark}
use Rattle.paper.proofs.ListLaws.{cases}
use Rattle.tree.specs.declared.Node.TheVariants.{Leaf, Fork}
use Rattle.tree.specs.Nodes.{IsNode}
use Rattle.tree.specs.Standing.{tree_on, Stands}
use Rattle.tree.proofs.Views.{on_holes}
use Rattle.tree.proofs.Standing.{first_on, second_on}
use Rattle.tree.proofs.Places.{all_under}
use Rattle.theory.specs.Trees.{leaves, Met}
use Rattle.theory.proofs.Grown.{number-grow, grow_fork, leaves-grow}
use Rattle.theory.proofs.Foreign.{root_first}
use Rattle.theory.proofs.Subtrees.{Sub, whole, sub_first, sub_second, some_leaf, number_met, facing_parts}
use Rattle.theory.proofs.Pairing.{pairs_bound}
use Rattle.theory.proofs.PairRules.{pairs_leaf, pairs_fork}
use Rattle.pairs.specs.Listing.{far_on, long_on, grown_on, Listable, pairs_on, Listed}
use Rattle.pairs.specs.Comparing.{node_on, compared_on, node_pairs, pairs_below, Faces, Comparing, NodeListing, Laid}
use Rattle.pairs.proofs.Laying.{laid_none, laid_more, laid_listed}
use Rattle.pairs.proofs.Parted.{leaf_on, fork_on}

-- ---- one node

-- every node lies in the tree
node-under : {w : List ℕ} {n : ℕ} → Stands w n → (k : ℕ) → k < nodes_of n → Sub (node_on w n k) (grown_on w n)
node-under {w} {n} s k b =
    let v = tree_on w n in
    root_first v s.rules (λ k. Sub (node_on w n k) (grown_on w n)) whole
    (λ i j l m p q.
    let F = grow_fork v s.rules i l p.0 in
    ⊎_elim (λ e. rw (← e) (sub_first (rw F at q))) (λ e. rw (← e) (sub_second (rw F at q))) p.1)
    k (omega (arith, on_holes w n))

module _ {w : List ℕ} {d a b n k : ℕ} (g : Listable w d a b n) (l : k < nodes_of n) where
  -- a leaf lists no pair, any other node those of its two parts
  pub none_of_leaf : cell w FIRST k ≡ leaf_mark → node_pairs w d a b n k ≡ []
  unfolding node_pairs
  none_of_leaf e = rw (leaf_on g.stands k l e)

  pub of_fork : (cell w FIRST k ≡ leaf_mark → ⊥) → node_pairs w d a b n k ≡ compared_on w d a b n (cell w FIRST k) (cell w SECOND k)
  unfolding node_pairs compared_on
  of_fork f = rw (fork_on g.stands k l f)

  pub parts_face : (cell w FIRST k ≡ leaf_mark → ⊥) → Faces w d a b n (cell w FIRST k) (cell w SECOND k)
  parts_face f =
      record {
        listable = g;
        left = (first_on g.stands k l f).node;
        right = (second_on g.stands k l f).node;
        facing = facing_parts (rw (fork_on g.stands k l f) at (node-under g.stands k l));
      }

module _ {w : List ℕ} {d a b n k at : ℕ} (g : NodeListing w d a b n k at) where
  pub list_leaf : {h : ℕ} {o : List ℕ} → IsNode (cell w FIRST k) (cell w SECOND k) (Leaf h) → Laid (node_pairs w d a b n k) at o o at
  list_leaf p = rw (none_of_leaf g.listable g.node p.0) laid_none

  module _ {i j : ℕ} (p : IsNode (cell w FIRST k) (cell w SECOND k) (Fork i j)) where
    pub compare-parts : Comparing w d a b n i j at
    compare-parts = grind (arith, common_steps, parts_face, of_fork)

    pub list-fork : {o o' : List ℕ} {r : ℕ} → Laid (compared_on w d a b n i j) at o o' r → Laid (node_pairs w d a b n k) at o o' r
    list-fork u = rw (of_fork g.listable g.node p.0) (rw (p.1, p.2) at u)

-- ---- all nodes in number order

pub pairs_below_more : (w : List ℕ) (d a b n k : ℕ) → pairs_below w d a b n (k + 1) ≡ pairs_below w d a b n k ++ node_pairs w d a b n k
unfolding pairs_below
pairs_below_more w d a b n k = rw add-one

module _ {w : List ℕ} {d a b n : ℕ} (g : Listable w d a b n) where
  all : Tree → List (ℕ × ℕ)
  all s = map numbers (pairs (far_on w d a b) (long_on w d) s)

  -- the nodes of s are those from k up to e
  upto : (s : Tree) (k e : ℕ) → Met k s → s ≡ node_on w n k → e + 1 ≡ k + 2 * leaves s → e ≤ nodes_of n
      → pairs_below w d a b n e ≡ pairs_below w d a b n k ++ all s
  unfolding all leaves node_pairs
  upto (leaf j x) k e m q f l =
      let z : e ≡ k + 1 = omega arith in
      rw (z, pairs_below_more w d a b n k, ← q, pairs_leaf)
  upto (fork j s t) k e m q f l =
      let z : k < nodes_of n = omega (arith, some_leaf s, some_leaf t) in
      let i : cell w FIRST k ≡ leaf_mark → ⊥ = λ h. no-fork (q ∙ leaf_on g.stands k z h) in
      let F = q ∙ fork_on g.stands k z i in
      let S = part_is s (cell w FIRST k) (k + 1) m.1 (first-of-fork F) in
      let T = part_is t (cell w SECOND k) (k + 2 * leaves s) m.2 (second-of-fork F) in
      upto t (k + 2 * leaves s) e m.2 T (omega arith) l
      ∙ rw (
        upto s (k + 1) (k + 2 * leaves s) m.1 S (omega arith) (omega (arith, some_leaf t)),
        pairs_below_more w d a b n k,
        ← q,
        pairs_fork (far_on w d a b) (long_on w d) j s t,
        map-append,
        map-append,
      ) (simp append_assoc)
    where
      no-fork : {j k x : ℕ} {s t : Tree} → fork j s t ≡ leaf k x → ⊥
      no-fork e = let z : ◌≡◌ {A = ℕ} 0 1 = ap (λ (u : Tree). elim u [ leaf k x ↦ 1 | fork k p q ↦ 0 ]) e in omega arith

      first-of-fork : {i j : ℕ} {s t p q : Tree} → fork i s t ≡ fork j p q → s ≡ p
      first-of-fork {s} e = ap (λ (u : Tree). elim u [ leaf k x ↦ s | fork k p q ↦ p ]) e

      second-of-fork : {i j : ℕ} {s t p q : Tree} → fork i s t ≡ fork j p q → t ≡ q
      second-of-fork {t} e = ap (λ (u : Tree). elim u [ leaf k x ↦ t | fork k p q ↦ q ]) e

      part_is : (s : Tree) (c k : ℕ) → Met k s → s ≡ node_on w n c → s ≡ node_on w n k
      part_is s c k m e =
          let z : c ≡ k = sym (number-grow (tree_on w n) c) ∙ sym (ap number e) ∙ number_met k s m in
          rw z at e

  all_leaves : leaves (grown_on w n) ≡ n
  all_leaves = grind (arith, common_steps, on_holes, leaves-grow, all_under)

  pub all_below : pairs_below w d a b n (nodes_of n) ≡ pairs_on w d a b n
  unfolding all pairs_below
  all_below = upto (grown_on w n) 0 (nodes_of n) g.met refl (omega (arith, all_leaves, g.stands.some)) (omega arith)

  -- few pairs in all, and no more of the nodes below k
  few_pairs : length (pairs_below w d a b n (nodes_of n)) ≤ 1_048_576
  few_pairs = grind (arith, common_steps, all_below, pairs_bound, all_leaves, mul-le-mul)

  fewer_below : (k e : ℕ) → k ≤ e → length (pairs_below w d a b n k) ≤ length (pairs_below w d a b n e)
  unfolding pairs_below
  fewer_below k zero l = let z : k ≡ 0 = omega arith in rw z (omega arith)
  fewer_below k (suc e) l =
      cases (eqb k (suc e))
      (λ h. let z = eqb-true k (suc e) h in rw z (omega arith))
      (λ h. omega (arith, fewer_below k e (omega (arith, eqb-false k (suc e) h)), length-append (pairs_below w d a b n e) (node_pairs w d a b n e)))

  -- ---- the turns of `list_pairs`

  pub none_below : {o : List ℕ} {start : ℕ} → Laid (pairs_below w d a b n 0) start o o start
  unfolding pairs_below
  none_below = laid_none

  pub node_next : {o o' : List ℕ} {k at start : ℕ} → k < nodes_of n → start ≤ 1_048_576 → Laid (pairs_below w d a b n k) start o o' at
      → NodeListing w d a b n k at
  node_next {k = k} l s u =
      record {
        listable = g;
        node = l;
        room = omega (
          arith,
          u.next,
          few_pairs,
          fewer_below (k + 1) (nodes_of n) (omega arith),
          ap length (pairs_below_more w d a b n k),
          length-append (pairs_below w d a b n k) (node_pairs w d a b n k),
        );
      }

  pub node_turn : {o o₁ o₂ : List ℕ} {k at start r : ℕ} → k < nodes_of n → Laid (pairs_below w d a b n k) start o o₁ at
      → Laid (node_pairs w d a b n k) at o₁ o₂ r → Laid (pairs_below w d a b n (k + 1)) start o o₂ r
  node_turn {k = k} l u v = rw (pairs_below_more w d a b n k) (laid_more u v)

  pub all_listed : {o o' : List ℕ} {k at start : ℕ} → k ≤ nodes_of n → nodes_of n ≤ k → Laid (pairs_below w d a b n k) start o o' at
      → Listed (pairs_on w d a b n) start o o' at
  all_listed {k = k} l m u =
      let z : k ≡ nodes_of n = omega arith in
      laid_listed (rw (z, all_below) at u)

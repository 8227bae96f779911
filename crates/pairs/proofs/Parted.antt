-- What a comparison comes to. Nodes that face each other and are separated are one pair; else the node with the longer side is no leaf, as a leaf is
-- never split, and the pairs are those of its first part against the other node and then those of its second. Assumes nothing.
use Rattle.std.proofs.lemmas.Grind.{common_steps}
use mathlib.Core.Path.{◌≡◌, ap, ◌∙◌}
use mathlib.Core.Bool.{true, false}
use mathlib.Core.List.{List, [], ◌∷◌, ◌++◌, map-append}
use Prim.Native.Nat.{ℕ, ◌+◌, ◌≤◌, ◌<◌}
use native.Mathlib.Omega.{arith}
use lib.Dec.{leb}
use lib.ListN.{length, length-append}
use Rattle.slate.specs.Columns.{FIRST, SECOND, REACH}
use Rattle.slate.specs.Slate.{cell, CellsHeld}
use Rattle.paper.specs.Field.{Ratio}
use Rattle.paper.specs.Tree.{Tree, leaf, fork, longest}
use Rattle.paper.specs.Separation.{D, separated}
use Rattle.paper.specs.Record.{nodes_of, leaf_mark}
use Rattle.paper.specs.Rules.{node_count}
use Rattle.field.specs.Boxes.{box_on}
use Rattle.field.proofs.Reaching.{first-reaches, second-asked}
use Rattle.tree.specs.Standing.{tree_on, Stands}
use Rattle.tree.proofs.Views.{on_holes, on_node}
use Rattle.tree.proofs.Standing.{first_on, second_on}
use Rattle.theory.specs.Trees.{leaves}
use Rattle.theory.proofs.Grown.{number-grow, grow_leaf, grow_fork}
use Rattle.theory.proofs.Subtrees.{whole, in_first, in_second, some_leaf, Facing, facing_down, facing_first}
use Rattle.theory.proofs.Pairing.{never-split-first, never-split-second}
use Rattle.theory.proofs.PairRules.{rule_far, rule_first, rule_second}
use Rattle.pairs.specs.Listing.{far_on, long_on, grown_on}
use Rattle.pairs.specs.Comparing.{node_on, compared_on, Faces, Halves, Comparing, Laid}
use Rattle.pairs.proofs.Laying.{laid_more}

-- ---- a node of the tree on the slate

module _ {w : List ℕ} {n : ℕ} (s : Stands w n) (k : ℕ) (b : k < nodes_of n) where
  in_tree : k < node_count (tree_on w n)
  in_tree = omega (arith, on_holes w n)

  pub leaf_on : cell w FIRST k ≡ leaf_mark → node_on w n k ≡ leaf k (cell w SECOND k)
  leaf_on e = rw (on_node w n k b) at (grow_leaf (tree_on w n) k in_tree (rw (on_node w n k b) e))

  pub fork_on : (cell w FIRST k ≡ leaf_mark → ⊥) → node_on w n k ≡ fork k (node_on w n (cell w FIRST k)) (node_on w n (cell w SECOND k))
  fork_on f = rw (on_node w n k b) at (grow_fork (tree_on w n) s.rules k in_tree (rw (on_node w n k b) f))

-- ---- a comparison that comes to comparing x with y, and then z with u

pub record Parts (w : List ℕ) (d a b n i j x y z u : ℕ) : Type 0 where
  pub one : Faces w d a b n x y
  pub two : Faces w d a b n z u
  pub less_one : leaves (node_on w n x) + leaves (node_on w n y) < leaves (node_on w n i) + leaves (node_on w n j)
  pub less_two : leaves (node_on w n z) + leaves (node_on w n u) < leaves (node_on w n i) + leaves (node_on w n j)
  pub pairs : compared_on w d a b n i j ≡ compared_on w d a b n x y ++ compared_on w d a b n z u

fewer : (s : Tree) (k : ℕ) (p q : Tree) → s ≡ fork k p q → (leaves p < leaves s) × (leaves q < leaves s)
unfolding leaves
fewer s k p q e = rw e (omega (arith, some_leaf p, some_leaf q))

module _ {w : List ℕ} {d a b n i j : ℕ} (f : Faces w d a b n i j) where
  far_is : far_on w d a b (node_on w n i) (node_on w n j) ≡ separated a b (box_on w d i) (box_on w d j)
  unfolding far_on
  far_is = rw (number-grow (tree_on w n) i, number-grow (tree_on w n) j)

  long_is : (k : ℕ) → long_on w d (node_on w n k) ≡ longest (box_on w d k)
  unfolding long_on
  long_is k = rw (number-grow (tree_on w n) k)

  -- neither reaches further than D
  module _ (ratio : Ratio a b) {x far : ℕ} (e : far ≡ D (box_on w d i) (box_on w d j)) (p : CellsHeld 4 w REACH i x) where
    pub near_first : far < x → separated a b (box_on w d i) (box_on w d j) ≡ false
    near_first l = grind (arith, common_steps, first-reaches)

    pub far-second : {y : ℕ} → x ≤ far → CellsHeld 4 w REACH j y → leb y far ≡ separated a b (box_on w d i) (box_on w d j)
    far-second l q =
        second-asked ratio (box_on w d i) (box_on w d j)
        (p.is ∙ (f.listable.shapes i f.left).reach_is) e (q.is ∙ (f.listable.shapes j f.right).reach_is) l

  -- other nodes of the same tree that face each other
  others : {x y : ℕ} → x < nodes_of n → y < nodes_of n → Facing (grown_on w n) (node_on w n x) (node_on w n y) → Faces w d a b n x y
  others l m h = record { listable = f.listable; left = l; right = m; facing = h }

  -- separated: one pair
  pub compared_one : separated a b (box_on w d i) (box_on w d j) ≡ true → compared_on w d a b n i j ≡ (i, j) ∷ []
  unfolding compared_on
  compared_one e =
      rw (rule_far (far_on w d a b) (long_on w d) (node_on w n i) (node_on w n j) (far_is ∙ e), number-grow (tree_on w n) i, number-grow (tree_on w n) j)

  -- not separated: node i is split where its side is longer, else node j
  module _ (e : separated a b (box_on w d i) (box_on w d j) ≡ false) where
    no-leaf-first : longest (box_on w d j) < longest (box_on w d i) → cell w FIRST i ≡ leaf_mark → ⊥
    no-leaf-first l q =
        let A = leaf_on f.listable.stands i f.left q in
        never-split-first (far_on w d a b) (long_on w d) f.listable.regular i (cell w SECOND i) (node_on w n j)
        (rw (← A) (facing_first f.facing)) (rw (← A, long_is i, long_is j) l)

    no-leaf-second : longest (box_on w d i) ≤ longest (box_on w d j) → cell w FIRST j ≡ leaf_mark → ⊥
    no-leaf-second l q =
        let B = leaf_on f.listable.stands j f.right q in
        never-split-second (far_on w d a b) (long_on w d) f.listable.regular (node_on w n i) j (cell w SECOND j)
        (rw (← B) f.facing) (rw (← B) (far_is ∙ e)) (rw (← B, long_is i, long_is j) l)

    pub parts_first : longest (box_on w d j) < longest (box_on w d i) → Parts w d a b n i j (cell w FIRST i) j (cell w SECOND i) j
    unfolding compared_on
    parts_first l =
        let s = f.listable.stands in
        let g = no-leaf-first l in
        let p = node_on w n (cell w FIRST i) in
        let q = node_on w n (cell w SECOND i) in
        let A : node_on w n i ≡ fork i p q = fork_on s i f.left g in
        let B = node_on w n j in
        let face : Facing (grown_on w n) (fork i p q) B = rw (← A) f.facing in
        let less = fewer (node_on w n i) i p q A in
        let no : far_on w d a b (fork i p q) B ≡ false = rw (← A) (far_is ∙ e) in
        let longer : long_on w d B < long_on w d (fork i p q) = rw (← A, long_is i, long_is j) l in
        record {
          one = others (first_on s i f.left g).node f.right (facing_down face (in_first whole) whole);
          two = others (second_on s i f.left g).node f.right (facing_down face (in_second whole) whole);
          less_one = omega arith;
          less_two = omega arith;
          pairs = rw (A, rule_first (far_on w d a b) (long_on w d) i p q B no longer, map-append);
        }

    pub parts-second : longest (box_on w d i) ≤ longest (box_on w d j) → Parts w d a b n i j i (cell w FIRST j) i (cell w SECOND j)
    unfolding compared_on
    parts-second l =
        let s = f.listable.stands in
        let g = no-leaf-second l in
        let p = node_on w n (cell w FIRST j) in
        let q = node_on w n (cell w SECOND j) in
        let B : node_on w n j ≡ fork j p q = fork_on s j f.right g in
        let A = node_on w n i in
        let face : Facing (grown_on w n) A (fork j p q) = rw (← B) f.facing in
        let less = fewer (node_on w n j) j p q B in
        let no : far_on w d a b A (fork j p q) ≡ false = rw (← B) (far_is ∙ e) in
        let longer : long_on w d A ≤ long_on w d (fork j p q) = rw (← B, long_is i, long_is j) l in
        record {
          one = others f.left (first_on s j f.right g).node (facing_down face whole (in_first whole));
          two = others f.left (second_on s j f.right g).node (facing_down face whole (in_second whole));
          less_one = omega arith;
          less_two = omega arith;
          pairs = rw (B, rule_second (far_on w d a b) (long_on w d) A j p q no longer, map-append);
        }

    -- what SIDE holds is the longest side
    pub halved : {r : (ℕ × ℕ) × (ℕ × ℕ)} → Halves w i j r → Parts w d a b n i j r.0.0 r.0.1 r.1.0 r.1.1
    halved h = grind (arith, common_steps, parts_first, parts-second)

-- ---- what `compare` is asked at its calls

module _ {w : List ℕ} {d a b n i j at : ℕ} (c : Comparing w d a b n i j at) where
  pub one_fits : separated a b (box_on w d i) (box_on w d j) ≡ true → at + 4 ≤ 1_099_511_627_776
  one_fits e = omega (arith, c.room, ap length (compared_one c.faces e))

  pub one_pair : {o o' : List ℕ} {r : ℕ} → separated a b (box_on w d i) (box_on w d j) ≡ true → Laid ((i, j) ∷ []) at o o' r
      → Laid (compared_on w d a b n i j) at o o' r
  one_pair e l = rw (compared_one c.faces e) l

  module _ {x y z u : ℕ} (p : Parts w d a b n i j x y z u) where
    lengths : length (compared_on w d a b n i j) ≡ length (compared_on w d a b n x y) + length (compared_on w d a b n z u)
    lengths = ap length p.pairs ∙ length-append (compared_on w d a b n x y) (compared_on w d a b n z u)

    pub part_one : Comparing w d a b n x y at
    part_one = record { faces = p.one; room = omega (arith, c.room, lengths) }

    pub part_two : {o o' : List ℕ} {m : ℕ} → Laid (compared_on w d a b n x y) at o o' m → Comparing w d a b n z u m
    part_two l = record { faces = p.two; room = omega (arith, c.room, lengths, l.next) }

    pub both-parts : {o o₁ o₂ : List ℕ} {m r : ℕ} → Laid (compared_on w d a b n x y) at o o₁ m → Laid (compared_on w d a b n z u) m o₁ o₂ r
        → Laid (compared_on w d a b n i j) at o o₂ r
    both-parts l k = rw p.pairs (laid_more l k)

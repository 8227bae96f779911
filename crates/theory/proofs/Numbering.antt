-- The node entries that a record lists of a tree numbered as it is met. The entry of a node stands at the node's number, so a reader finds
-- at every node what the tree has there: the same parts, the same holes below, and the tree itself again. As no two nodes have a part in
-- common and every node but the root is a part of one, the node rules hold and no node is loose. Assumes nothing.
use mathlib.Core.Path.{◌≡◌, refl, sym, ap, ap₂, ◌∙◌, subst}
use mathlib.Core.Logic.{◌↔◌, ◌≢◌, inl, inr, ⊎_elim}
use mathlib.Core.Bool.{false, not}
use mathlib.Core.List.{List, [], ◌∷◌, ◌++◌, append_assoc, append-nil}
use Prim.Native.Nat.{ℕ, zero, suc, ◌+◌, ◌*◌, ◌≤◌, ◌<◌}
use native.Mathlib.Omega.{arith}
use lib.Dec.{ltb}
use lib.ListN.{length, get_or, length-append}
use lib.Seq.{get_or_at}
use borrow.Author.Tests.{ne_eqb, ltb-true}
use Rattle.paper.specs.Lists.{some_of, below}
use Rattle.paper.specs.Tree.{Tree, leaf, fork, number, under}
use Rattle.paper.specs.Record.{View, leaf_mark, entries}
use Rattle.paper.specs.Rules.{hole_count, node_count, node, Leaf, Names, names, NodeRule, PartRule, loose, under_from, under_node}
use Rattle.paper.proofs.ListLaws.{not_so, and_is, not_is}
use Rattle.theory.proofs.Statements.{some_below, names_is}
use Rattle.theory.specs.Trees.{leaves, Met, grow_from, grow}
use Rattle.theory.proofs.Subtrees.{Sub, whole, in_first, in_second, leaf_under, some_leaf, number_met, sub_number}
use Rattle.theory.proofs.Nodes.{length-entries, twice, Once, Part, part_range, one_whole, node_at, part_of}

-- what follows the entries before a first part, and before a second part
to_first : {A : Type 0} (p : List A) (x : A) (c d r : List A) → p ++ (x ∷ c ++ d ++ r) ≡ p ++ (x ∷ []) ++ (c ++ (d ++ r))
to_first p x c d r = simp append_assoc

to_second : {A : Type 0} (p : List A) (x : A) (c d r : List A) → p ++ (x ∷ c ++ d ++ r) ≡ p ++ (x ∷ []) ++ c ++ (d ++ r)
to_second p x c d r = simp append_assoc

-- the entry of a node
abbrev entry : Tree → ℕ × ℕ
entry (leaf k x) = (leaf_mark, x)
entry (fork k a b) = (number a, number b)

module _ (v : View) where
  -- the entries of s and of the nodes below it stand in the record from the number of s on
  record Placed (s : Tree) : Type 0 where
    before : List (ℕ × ℕ)
    after : List (ℕ × ℕ)
    is : v.nodes ≡ before ++ (entries s ++ after)
    place : length before ≡ number s
    met : Met (number s) s

  placed_root : (t : Tree) → Met 0 t → v.nodes ≡ entries t → Placed t
  placed_root t met e =
      record { before = []; after = []; is = e ∙ sym (append-nil (entries t)); place = sym (number_met 0 t met); met = rw (number_met 0 t met) met }

  placed_first : (k : ℕ) (a b : Tree) → Placed (fork k a b) → Placed a
  unfolding entries number
  placed_first k a b w =
      let e : number a ≡ k + 1 = number_met (k + 1) a w.met.1 in
      record {
        before = w.before ++ ((number a, number b) ∷ []);
        after = entries b ++ w.after;
        is = w.is ∙ to_first w.before (number a, number b) (entries a) (entries b) w.after;
        place = rw length-append (omega (arith, w.place));
        met = rw e w.met.1;
      }

  placed_second : (k : ℕ) (a b : Tree) → Placed (fork k a b) → Placed b
  unfolding entries number
  placed_second k a b w =
      let e : number b ≡ k + 2 * leaves a = number_met (k + 2 * leaves a) b w.met.2 in
      record {
        before = w.before ++ ((number a, number b) ∷ []) ++ entries a;
        after = w.after;
        is = w.is ∙ to_second w.before (number a, number b) (entries a) (entries b) w.after;
        place = simp length-append (omega (arith, w.place, length-entries a));
        met = rw e w.met.2;
      }

  placed_sub : {s t : Tree} → Placed t → Sub s t → Placed s
  placed_sub w whole = w
  placed_sub w (in_first {a = a} {b = b} {k = k} u) = placed_sub (placed_first k a b w) u
  placed_sub w (in_second {a = a} {b = b} {k = k} u) = placed_sub (placed_second k a b w) u

  -- a reader finds there a leaf's hole or a node's two parts
  node_entry : (s : Tree) → Placed s → node v (number s) ≡ entry s
  unfolding entries
  node_entry (leaf k x) w =
      ap (λ (l : List (ℕ × ℕ)). get_or l (number (leaf k x)) (0, 0)) w.is ∙ get_or_at w.before (leaf_mark, x) w.after (0, 0) _ w.place
  node_entry (fork k a b) w =
      ap (λ (l : List (ℕ × ℕ)). get_or l (number (fork k a b)) (0, 0)) w.is
      ∙ get_or_at w.before (number a, number b) (entries a ++ entries b ++ w.after) (0, 0) _ w.place

  listed : (s : Tree) → Placed s → number s + length (entries s) ≤ length v.nodes
  listed s w = rw w.is (simp length-append (omega (arith, w.place)))

  -- the laws of what is under a node and of the tree that grows there
  pub at_leaf : (f k x : ℕ) → node v k ≡ (leaf_mark, x) → (under_from v (suc f) k ≡ x ∷ []) × (grow_from v (suc f) k ≡ leaf k x)
  unfolding under_from grow_from
  at_leaf f k x e = (rw (e, under_from) (rw e), rw (e, grow_from) (rw e))

  pub at_fork : (f k c d : ℕ) → node v k ≡ (c, d) → c ≢ leaf_mark
      → (under_from v (suc f) k ≡ under_from v f c ++ under_from v f d) × (grow_from v (suc f) k ≡ fork k (grow_from v f c) (grow_from v f d))
  unfolding under_from grow_from
  at_fork f k c d e h = (rw (e, ne_eqb c leaf_mark h, under_from) (rw e), rw (e, ne_eqb c leaf_mark h, grow_from) (rw e))

  module _ (fits : length v.nodes < leaf_mark) where
    unmarked : (k : ℕ) (a b : Tree) → Placed (fork k a b) → number a ≢ leaf_mark
    unmarked k a b w e = omega (arith, listed a (placed_first k a b w))

    read_back : (s : Tree) (f : ℕ) → Placed s → length (entries s) ≤ f → (under_from v f (number s) ≡ under s) × (grow_from v f (number s) ≡ s)
    unfolding entries under number
    read_back (leaf k x) zero w h = absurd (omega arith)
    read_back (leaf k x) (suc f) w h = at_leaf f k x (node_entry (leaf k x) w)
    read_back (fork k a b) zero w h = absurd (omega arith)
    read_back (fork k a b) (suc f) w h =
        let l : length (entries a ++ entries b) ≡ length (entries a) + length (entries b) = length-append (entries a) (entries b) in
        let r = at_fork f k (number a) (number b) (node_entry (fork k a b) w) (unmarked k a b w) in
        let p = read_back a f (placed_first k a b w) (omega arith) in
        let q = read_back b f (placed_second k a b w) (omega arith) in
        (r.0 ∙ ap₂ (λ (x y : List ℕ). x ++ y) p.0 q.0, r.1 ∙ ap₂ (fork k) p.1 q.1)

module _
    (v : View) (t : Tree) (met : Met 0 t) (count : leaves t ≡ hole_count v) (listing : v.nodes ≡ entries t) (fits : node_count v < leaf_mark) where
  placed : (s : Tree) → Sub s t → Placed v s
  placed s u = placed_sub v (placed_root v t met listing) u

  all_nodes : length v.nodes ≡ node_count v
  all_nodes = rw listing (omega (arith, length-entries t))

  -- what is found at a node's number, and the whole tree
  found : (s : Tree) → Sub s t → (under_node v (number s) ≡ under s) × (grow v (number s) ≡ s)
  unfolding under_node grow
  found s u = read_back v (omega (arith, all_nodes)) s (node_count v) (placed s u) (omega (arith, listed v s (placed s u), all_nodes))

  pub under_sub : (s : Tree) → Sub s t → under_node v (number s) ≡ under s
  under_sub s u = (found s u).0

  pub grow_sub : (s : Tree) → Sub s t → grow v (number s) ≡ s
  grow_sub s u = (found s u).1

  pub grow_back : grow v 0 ≡ t
  grow_back = rw (number_met 0 t met) at (grow_sub t whole)

  -- a node's number is one of the record's, and what holds of the number of each node holds of each of those
  pub number_sub : (s : Tree) → Sub s t → number s < node_count v
  number_sub s u = omega (arith, sub_number 0 u met)

  pub by_node : (P : ℕ → Type 0) → ((s : Tree) → Sub s t → P (number s)) → (k : ℕ) → k < node_count v → P k
  by_node P f k h = let r = node_at 0 k t met (omega arith) (omega arith) in subst P r.2 (f r.0 r.1)

  -- what a node names is its parts, and a node that is no leaf is not read as one
  unmarked_sub : (k : ℕ) (a b : Tree) → Sub (fork k a b) t → number a ≢ leaf_mark
  unmarked_sub k a b u = unmarked v (omega (arith, all_nodes)) k a b (placed (fork k a b) u)

  named : (c : ℕ) (s : Tree) → Sub s t → Names v (number s) c ↔ Part c s
  unfolding number
  named c (leaf k x) u =
      let e = node_entry v (leaf k x) (placed (leaf k x) u) in
      (λ n. n.0 (ap (λ (p : ℕ × ℕ). p.0) e), λ p. absurd p)
  named c (fork k a b) u =
      let e = node_entry v (fork k a b) (placed (fork k a b) u) in
      (λ n. rw e at n.1, λ p. rw e (unmarked_sub k a b u, p))

  -- no node above 0 is loose
  pub none-loose : (k : ℕ) → k < node_count v → loose v k ≡ false
  unfolding loose
  none-loose = by_node (λ k. loose v k ≡ false) tied
    where
      tied : (s : Tree) → Sub s t → loose v (number s) ≡ false
      tied s u =
          not_so (λ e.
          let w = (and_is (ltb 0 (number s)) (not (some_of (names v (number s)) (below (node_count v))))).0 e in
          (not_is (some_of (names v (number s)) (below (node_count v)))).0 w.1
          (⊎_elim
          (λ f. absurd (omega (arith, ltb-true 0 (number s) w.0, ap number f, number_met 0 t met)))
          (λ r. some_below (names v (number s)) (node_count v) (number r.0) (number_sub r.0 r.1)
          ((names_is v (number s) (number r.0)).1 ((named (number s) r.0 r.1).1 r.2)))
          (part_of u)))

  -- no lower-numbered node names a part of a node
  part_rule : (c k : ℕ) (a b : Tree) → Sub (fork k a b) t → Part c (fork k a b) → PartRule v k c
  unfolding number
  part_rule c k a b u p =
      record {
        above = (part_range k c {s = fork k a b} (placed (fork k a b) u).met whole p).0;
        node = omega (arith, part_range 0 c met u p);
        new = λ j l. by_node (λ j. j < k → Names v j c → ⊥)
            (λ s w h n. omega (arith, ap number (one_whole 0 c met w u ((named c s w).0 n) p)))
            j (omega (arith, number_sub (fork k a b) u)) l;
      }

  module _ (o : Once (hole_count v) t) where
    -- no lower-numbered leaf has a leaf's hole
    new-leaf : (k x : ℕ) → Sub (leaf k x) t → (s : Tree) → Sub s t → number s < k → Leaf v (number s) → (node v (number s)).1 ≢ x
    unfolding number
    new-leaf k x u (leaf i y) w h f q =
        let e : y ≡ x = ap (λ (p : ℕ × ℕ). p.1) (sym (node_entry v (leaf i y) (placed (leaf i y) w))) ∙ q in
        omega (arith, o.once x, twice {x = x} {i = i} {j = k} (omega arith) (rw e at w) u)
    new-leaf k x u (fork i a b) w h f q = unmarked_sub i a b w (rw (node_entry v (fork i a b) (placed (fork i a b) w)) at f)

    rule : (s : Tree) → Sub s t → NodeRule v (number s)
    unfolding number
    rule (leaf k x) u =
        let e : node v k ≡ (leaf_mark, x) = node_entry v (leaf k x) (placed (leaf k x) u) in
        record {
          leaf = λ l. record {
            hole = rw e (o.within x (leaf_under u));
            new = rw e (λ j l. by_node (λ j. j < k → Leaf v j → (node v j).1 ≢ x) (new-leaf k x u) j (omega (arith, number_sub (leaf k x) u)) l);
          };
          fork = λ f. absurd (f (ap (λ (p : ℕ × ℕ). p.0) e));
        }
    rule (fork k a b) u =
        let e : node v k ≡ (number a, number b) = node_entry v (fork k a b) (placed (fork k a b) u) in
        let m = (placed (fork k a b) u).met in
        record {
          leaf = λ l. absurd (unmarked_sub k a b u (rw e at l));
          fork = λ f. record {
            different = rw e (omega (arith, number_met (k + 1) a m.1, number_met (k + 2 * leaves a) b m.2, some_leaf a));
            first = rw e (part_rule (number a) k a b u (inl refl));
            second = rw e (part_rule (number b) k a b u (inr refl));
          };
        }

    pub node-rule : (k : ℕ) → k < node_count v → NodeRule v k
    node-rule = by_node (NodeRule v) rule

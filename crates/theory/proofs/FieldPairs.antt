-- The tree and the pairs of a field without repeats, for any number of coordinates: what is shown of every tree and of any separation test holds
-- of a field's, since two different holes are always separated and only a leaf has no side. Assumes nothing.
use mathlib.Core.Path.{◌≡◌, refl, ap, ◌∙◌}
use mathlib.Core.Logic.{◌≢◌}
use mathlib.Core.Bool.{Bool, true}
use mathlib.Core.List.{List, [], ◌∷◌, map}
use Prim.Native.Nat.{ℕ, suc, ◌*◌, ◌-◌, ◌/◌, ◌≤◌, ◌<◌}
use lib.ListN.{length, length-map, get_or-map}
use borrow.Author.Tests.{eq-eqb}
use Rattle.paper.specs.Lists.{count}
use Rattle.paper.specs.Field.{Field}
use Rattle.paper.specs.Tree.{Tree, leaf, number, under, tree_of}
use Rattle.paper.specs.Separation.{far, side}
use Rattle.paper.specs.Pairs.{comparisons, pairs_of, numbers}
use Rattle.paper.specs.Record.{leaf_mark, built, nodes_of}
use Rattle.paper.specs.Rules.{node_count, pair_count, pair, NodeRule, PairRule, under_node, covers, covered_once, OnePair}
use Rattle.paper.proofs.ListLaws.{cases}
use Rattle.theory.proofs.Statements.{separated_is, covered_is}
use Rattle.theory.specs.Trees.{Each, grow}
use Rattle.theory.proofs.EachLaws.{each_map, each_map₂, each_at}
use Rattle.theory.proofs.Subtrees.{Sub, leaf_under}
use Rattle.theory.proofs.Covering.{parts}
use Rattle.theory.proofs.PairRules.{pairs-far}
use Rattle.theory.proofs.Pairing.{Regular, pairs_at_most, pairs-cover}
use Rattle.theory.proofs.Counting.{comparisons_are}
use Rattle.theory.proofs.PairsFit.{pairs-sub}
use Rattle.theory.proofs.Fields.{Distinct, leaf_side, leaves_far, leaves-tree, met-tree, once-tree, times-tree, fork-tree-side}
use Rattle.theory.proofs.Numbering.{under_sub, number_sub, grow_back, node-rule}
use Rattle.theory.proofs.Checker.{Meant}

-- a test over a list that is mapped, and two tests that agree on a list
pub count_map : {A B : Type 0} (p : B → Bool) (f : A → B) (l : List A) → count p (map f l) ≡ count (λ x. p (f x)) l
count_map p f [] = refl
count_map p f (x ∷ l) = cases (p (f x)) (λ e. rw (e, count) (ap suc (count_map p f l))) (λ e. rw (e, count) (count_map p f l))

pub count_same : {A : Type 0} (p q : A → Bool) (l : List A) → Each (λ x. p x ≡ q x) l → count p l ≡ count q l
count_same p q [] w = refl
count_same p q (x ∷ l) w =
    cases (q x)
    (λ e. rw (w.0, e, count) (ap suc (count_same p q l w.1)))
    (λ e. rw (w.0, e, count) (count_same p q l w.1))

module _ (d : ℕ) (H : Field) (sized : Each (λ h. length h ≡ d) H) (distinct : Distinct H) (some : 1 ≤ length H) (a b : ℕ) where
  pub regular : Regular (far H a b) (side H) (tree_of H)
  regular =
      let o = once-tree H d sized distinct some in
      record {
        once = o.once;
        leaves_far = λ i x j y p q ne. leaves_far H d sized distinct a b i x j y (o.within x (leaf_under p)) (o.within y (leaf_under q)) ne;
        flat = λ i x q. leaf_side H i x;
        wide = fork-tree-side H d sized distinct some;
      }

  -- every two different holes are covered by exactly one pair
  pub field_covered : (p q : ℕ) → p < length H → q < length H → p ≢ q → count (parts p q) (pairs_of H a b) ≡ 1
  unfolding pairs_of
  field_covered p q l m ne =
      pairs-cover (far H a b) (side H) regular p q ne (times-tree H d sized distinct some p l) (times-tree H d sized distinct some q m)

  -- 2m - (n - 1) comparisons are made, and m is at most n(n - 1)/2
  pub field_comparisons : length (comparisons (far H a b) (side H) (tree_of H)) ≡ 2 * length (pairs_of H a b) - (length H - 1)
  unfolding pairs_of
  field_comparisons = rw (← leaves-tree H d sized distinct some) (comparisons_are (far H a b) (side H) regular)

  pub field_few : length (pairs_of H a b) ≤ length H * (length H - 1) / 2
  unfolding pairs_of
  field_few = rw (← leaves-tree H d sized distinct some) (pairs_at_most (far H a b) (side H) (tree_of H))

  -- what the builder's record says meets the rules
  module _ (few : nodes_of (length H) < leaf_mark) where
    -- the holes that a reader finds under a node are those of the tree
    pub built-under : (s : Tree) → Sub s (tree_of H) → under_node (built a b H) (number s) ≡ under s
    unfolding built
    built-under = under_sub (built a b H) (tree_of H) (met-tree H d sized distinct some) (leaves-tree H d sized distinct some) refl few

    number-built : (s : Tree) → Sub s (tree_of H) → number s < node_count (built a b H)
    unfolding built
    number-built = number_sub (built a b H) (tree_of H) (met-tree H d sized distinct some) (leaves-tree H d sized distinct some) refl few

    -- and growing a tree from its nodes gives the tree back
    pub built-tree : grow (built a b H) 0 ≡ tree_of H
    unfolding built
    built-tree = grow_back (built a b H) (tree_of H) (met-tree H d sized distinct some) (leaves-tree H d sized distinct some) refl few

    built-nodes : (k : ℕ) → k < node_count (built a b H) → NodeRule (built a b H) k
    unfolding built
    built-nodes =
        node-rule (built a b H) (tree_of H) (met-tree H d sized distinct some) (leaves-tree H d sized distinct some) refl few
        (once-tree H d sized distinct some)

    -- a listed pair's numbers name its nodes, which are separated
    Right : Tree × Tree → Type 0
    Right r = (Sub r.0 (tree_of H) × Sub r.1 (tree_of H)) × (far H a b r.0 r.1 ≡ true)

    all_right : Each Right (pairs_of H a b)
    unfolding pairs_of Right
    all_right = each_map₂ (λ r s e. (s, e)) (pairs_of H a b) (pairs-sub (far H a b) (side H) (tree_of H)) (pairs-far (far H a b) (side H) (tree_of H))

    pair_rule : (r : Tree × Tree) → Right r → PairRule (built a b H) (numbers r)
    unfolding Right built far
    pair_rule r w =
        record {
          left = number-built r.0 w.0.0;
          right = number-built r.1 w.0.1;
          far = rw (built-under r.0 w.0.0, built-under r.1 w.0.1) ((separated_is a b _ _).0 w.1);
        }

    built-pairs : (k : ℕ) → k < pair_count (built a b H) → PairRule (built a b H) (pair (built a b H) k)
    unfolding built number
    built-pairs k l =
        rw (get_or-map numbers (pairs_of H a b) k (leaf 0 0, leaf 0 0))
        (pair_rule _ (each_at Right (pairs_of H a b) all_right k (leaf 0 0, leaf 0 0) (rw (← length-map (pairs_of H a b) numbers) l)))

    covers_is : (p q : ℕ) (r : Tree × Tree) → Right r → covers (built a b H) (p, q) (numbers r) ≡ parts p q r
    unfolding Right covers parts
    covers_is p q r w = rw (built-under r.0 w.0.0, built-under r.1 w.0.1)

    built-covered : (p q : ℕ) → p < length H → q < length H → p ≢ q → OnePair (built a b H) p q
    unfolding covered_once built
    built-covered p q l m ne =
        (covered_is (built a b H) p q).0
        (eq-eqb _ _
        (count_map (covers (built a b H) (p, q)) numbers (pairs_of H a b)
        ∙ count_same _ (parts p q) (pairs_of H a b) (each_map (covers_is p q) (pairs_of H a b) all_right)
        ∙ field_covered p q l m ne))

    pub built-meant : Meant (built a b H)
    unfolding built
    built-meant = record { distinct = distinct; nodes = built-nodes; pairs = built-pairs; covered = built-covered }

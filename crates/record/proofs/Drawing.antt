-- The field's tree on the slate, with its boxes: the slate's separation and sides are the field's, so its pairs are too. Assumes nothing.
use mathlib.Core.Path.{◌≡◌, sym, ap, ◌∙◌}
use mathlib.Core.List.{List, map}
use Prim.Native.Nat.{ℕ, ◌*◌, ◌≤◌, ◌<◌}
use native.Mathlib.Omega.{arith}
use lib.ListN.{length}
use Rattle.words.specs.Area.{word}
use Rattle.slate.specs.Columns.{HOLES}
use Rattle.slate.specs.Slate.{Grid}
use Rattle.paper.specs.Field.{holes_at}
use Rattle.paper.specs.Tree.{Tree, leaf, fork, number, under, box_at, tree_of}
use Rattle.paper.specs.Separation.{far, side}
use Rattle.paper.specs.Pairs.{pairs_of, numbers}
use Rattle.paper.specs.Record.{entries, nodes_of, leaf_mark}
use Rattle.paper.specs.Rules.{hole_count, node_count}
use Rattle.theory.specs.Trees.{Met, leaves}
use Rattle.theory.proofs.Reading.{length_holes, holes_flat}
use Rattle.theory.proofs.Subtrees.{Sub}
use Rattle.theory.proofs.Fields.{met-tree, leaves-tree, once-tree}
use Rattle.theory.proofs.Numbering.{under_sub, grow_back, number_sub, node-rule}
use Rattle.theory.proofs.Pairing.{Regular}
use Rattle.theory.proofs.PairsAgree.{pairs_agree}
use Rattle.theory.proofs.FieldPairs.{regular}
use Rattle.field.specs.Boxes.{box_on}
use Rattle.field.proofs.Boxes.{box_high}
use Rattle.tree.specs.Standing.{tree_on, Stands}
use Rattle.tree.specs.Planting.{Grown}
use Rattle.tree.proofs.Views.{on_holes, same-tree}
use Rattle.pairs.specs.Listing.{far_on, long_on, grown_on, Shapes}
use Rattle.record.specs.Building.{Buildable, Sized, Drawn}

module _ {c : List ℕ} {n : ℕ} (f : Buildable c n) (w : List ℕ) (grid : Grid w) (nodes : (tree_on w n).nodes ≡ entries (tree_of (holes_at 2 c 0 n))) where
  some_holes : 1 ≤ length (holes_at 2 c 0 n)
  some_holes = rw (length_holes 2 c 0 n) f.some

  met : Met 0 (tree_of (holes_at 2 c 0 n))
  met = met-tree (holes_at 2 c 0 n) 2 (holes_flat 2 c 0 n) f.distinct some_holes

  all_leaves : leaves (tree_of (holes_at 2 c 0 n)) ≡ hole_count (tree_on w n)
  all_leaves = leaves-tree (holes_at 2 c 0 n) 2 (holes_flat 2 c 0 n) f.distinct some_holes ∙ length_holes 2 c 0 n ∙ sym (on_holes w n)

  few_nodes : node_count (tree_on w n) < leaf_mark
  few_nodes = omega (arith, on_holes w n, f.few)

  -- it meets the node rules
  pub stands : Stands w n
  stands =
      record {
        grid = grid;
        some = f.some;
        few = f.few;
        rules = node-rule (tree_on w n) (tree_of (holes_at 2 c 0 n)) met all_leaves nodes few_nodes
            (rw (on_holes w n ∙ sym (length_holes 2 c 0 n)) (once-tree (holes_at 2 c 0 n) 2 (holes_flat 2 c 0 n) f.distinct some_holes));
      }

  tree_is : grown_on w n ≡ tree_of (holes_at 2 c 0 n)
  tree_is = grow_back (tree_on w n) (tree_of (holes_at 2 c 0 n)) met all_leaves nodes few_nodes

  module _ {a b : ℕ} (boxes : (s : Tree) → Sub s (tree_of (holes_at 2 c 0 n)) → box_on w 2 (number s) ≡ box_at (holes_at 2 c 0 n) (under s)) (shapes : Shapes w 2 a b n) where
    far_is : (A B : Tree) → Sub A (tree_of (holes_at 2 c 0 n)) → Sub B (tree_of (holes_at 2 c 0 n)) → far_on w 2 a b A B ≡ far (holes_at 2 c 0 n) a b A B
    unfolding far_on far
    far_is A B p q = rw (boxes A p, boxes B q)

    side_is : (A : Tree) → Sub A (tree_of (holes_at 2 c 0 n)) → long_on w 2 A ≡ side (holes_at 2 c 0 n) A
    unfolding long_on side
    side_is A p = rw (boxes A p)

    regular-on : Regular (far_on w 2 a b) (long_on w 2) (tree_of (holes_at 2 c 0 n))
    regular-on =
        let r = regular 2 (holes_at 2 c 0 n) (holes_flat 2 c 0 n) f.distinct some_holes a b in
        record {
          once = r.once;
          leaves_far = λ i x j y p q ne. far_is (leaf i x) (leaf j y) p q ∙ r.leaves_far i x j y p q ne;
          flat = λ i x q. side_is (leaf i x) q ∙ r.flat i x q;
          wide = λ i s t q. rw (side_is (fork i s t) q) (r.wide i s t q);
        }

    pub drawn : Drawn c a b n w
    unfolding pairs_of
    drawn =
        record {
          listable = record {
            stands = stands;
            axes = record { some = omega arith; few = omega arith };
            shapes = shapes;
            met = rw tree_is met;
            regular = rw tree_is regular-on;
          };
          nodes = nodes;
          pairs = rw tree_is (ap (map numbers) (pairs_agree (far_on w 2 a b) (far (holes_at 2 c 0 n) a b) (long_on w 2) (side (holes_at 2 c 0 n)) regular-on far_is side_is));
        }

-- summed up and with its shapes written: the tree is still there, and each node's box is that of its holes
module _ {c : List ℕ} {n : ℕ} (f : Buildable c n) {old mid : List ℕ} (grid : Grid old)
    (g : Grown (holes_at 2 c 0 n) n old mid) where
  pub planted : Stands mid n
  planted = stands f mid (omega (arith, g.len)) g.nodes

  pub shaped : {a b : ℕ} {last : List ℕ} → Sized c a b n mid last → Drawn c a b n last
  shaped {last = last} z =
      let s = z.summed in
      let p = z.shapes in
      let keeps : (i : ℕ) → i < 2_048 * HOLES → word last i ≡ word mid i =
      λ i l. p.kept.rest i (λ x y. omega arith) ∙ s.rest i (λ x y. omega arith) (omega arith) in
      let e = same-tree last mid n (λ k l. keeps _ (omega arith)) (λ k l. keeps _ (omega arith)) in
      drawn f last (omega (arith, p.kept.len, s.len, g.len)) (ap (λ (v : Rattle.paper.specs.Record.View). v.nodes) e ∙ g.nodes)
      (λ t q.
      box_high last z.between 2 (number t) (λ i l. p.kept.rest i (λ x y. omega arith))
      ∙ s.box (number t) (node-there t q)
      ∙ ap (box_at (holes_at 2 c 0 n)) (under-is t q))
      p.shapes
    where
      under-is : (t : Tree) → Sub t (tree_of (holes_at 2 c 0 n)) → Rattle.paper.specs.Rules.under_node (tree_on mid n) (number t) ≡ under t
      under-is t q =
          under_sub (tree_on mid n) (tree_of (holes_at 2 c 0 n)) (met f mid (omega (arith, g.len)) g.nodes) (all_leaves f mid (omega (arith, g.len)) g.nodes)
          g.nodes (few_nodes f mid (omega (arith, g.len)) g.nodes) t q

      node-there : (t : Tree) → Sub t (tree_of (holes_at 2 c 0 n)) → number t < nodes_of n
      node-there t q =
          omega (
            arith,
            on_holes mid n,
            number_sub (tree_on mid n) (tree_of (holes_at 2 c 0 n)) (met f mid (omega (arith, g.len)) g.nodes) (all_leaves f mid (omega (arith, g.len)) g.nodes)
                g.nodes (few_nodes f mid (omega (arith, g.len)) g.nodes) t q,
          )

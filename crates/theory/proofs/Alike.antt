-- What the rules say of a node, and what is under it, depends on the nodes and on the number of holes alone: it is the same in two views of one
-- tree. So what is shown of a tree on the work area holds of the record's. Assumes nothing.
use mathlib.Core.Path.{◌≡◌, sym, ap, ap₂, ◌∙◌}
use mathlib.Core.Logic.{inl, inr, ⊎_elim}
use mathlib.Core.List.{◌++◌}
use Prim.Native.Nat.{ℕ, ◌<◌}
use native.Mathlib.Omega.{arith}
use Rattle.paper.specs.Record.{View}
use Rattle.paper.specs.Rules.{node_count, node, Leaf, Names, PartRule, NodeRule, under_node}
use Rattle.theory.specs.Trees.{Alike}
use Rattle.theory.proofs.Grown.{parts_first, under_leaf, under_fork}

pub alike_back : {v u : View} → Alike v u → Alike u v
alike_back s = record { holes = sym s.holes; nodes = λ k l. sym (s.nodes k (omega arith)) }

pub alike_more : {v u t : View} → Alike v u → Alike u t → Alike v t
alike_more s r = record { holes = s.holes ∙ r.holes; nodes = λ k l. s.nodes k l ∙ r.nodes k (omega arith) }

module _ {v u : View} (s : Alike v u) where
  -- a leaf of one is a leaf of the other
  leaf_there : (k : ℕ) → k < node_count v → Leaf v k → Leaf u k
  leaf_there k l f = rw (← s.nodes k l) f

  leaf_here : (k : ℕ) → k < node_count v → Leaf u k → Leaf v k
  leaf_here k l f = rw (s.nodes k l) f

  names_here : (j c : ℕ) → j < node_count v → Names u j c → Names v j c
  names_here j c l n = (λ f. n.0 (leaf_there j l f), ⊎_elim (λ e. inl (rw (s.nodes j l) e)) (λ e. inr (rw (s.nodes j l) e)) n.1)

  part_there : (k c : ℕ) → k < node_count v → PartRule v k c → PartRule u k c
  part_there k c l p =
      record { above = p.above; node = omega (arith, p.node, s.holes); new = λ j b n. p.new j b (names_here j c (omega arith) n) }

  pub alike_rule : (k : ℕ) → k < node_count v → NodeRule v k → NodeRule u k
  alike_rule k l r =
      record {
        leaf = λ f.
            let w = r.leaf (leaf_here k l f) in
            record {
              hole = rw (← s.nodes k l, ← s.holes) w.hole;
              new = λ j b g e. w.new j b (leaf_here j (omega arith) g) (ap (λ (p : ℕ × ℕ). p.1) (s.nodes j (omega arith)) ∙ e ∙ sym (ap (λ (p : ℕ × ℕ). p.1) (s.nodes k l)));
            };
        fork = λ f.
            let w = r.fork (λ g. f (leaf_there k l g)) in
            record {
              different = rw (← s.nodes k l) w.different;
              first = rw (← s.nodes k l) (part_there k (node v k).0 l w.first);
              second = rw (← s.nodes k l) (part_there k (node v k).1 l w.second);
            };
      }

  module _ (rules : (k : ℕ) → k < node_count v → NodeRule v k) where
    pub alike-rules : (k : ℕ) → k < node_count u → NodeRule u k
    alike-rules k l = alike_rule k (omega (arith, s.holes)) (rules k (omega (arith, s.holes)))

    -- the same holes are under each node
    pub alike-under : (k : ℕ) → k < node_count v → under_node v k ≡ under_node u k
    alike-under =
        parts_first v rules (λ k. under_node v k ≡ under_node u k)
        (λ k l f.
        let b : k < node_count u = omega (arith, s.holes) in
        under_leaf v k l f ∙ rw (s.nodes k l) (sym (under_leaf u k b (leaf_there k l f))))
        (λ k l f p q.
        let b : k < node_count u = omega (arith, s.holes) in
        under_fork v rules k l f
        ∙ ap₂ ◌++◌ p q
        ∙ rw (s.nodes k l) (sym (under_fork u alike-rules k b (λ g. f (leaf_here k l g)))))

-- A record's tree made by anyone, numbered in any rising way: where each node meets its rule, every hole is under the root exactly once
-- and under no node more often, and the holes under two nodes are nested or disjoint. For a hole is under all nodes together once for the
-- leaf that holds it, and as often as it is under the nodes that are named, which are all but the root. Assumes nothing.
use mathlib.Core.Path.{◌≡◌, sym, ap, subst, ◌∙◌}
use mathlib.Core.Logic.{◌≢◌, ◌⊎◌, inl, inr, ⊎_elim}
use Prim.Native.Nat.{ℕ, zero, suc, ◌+◌, ◌*◌, ◌≤◌, ◌<◌}
use native.Mathlib.Omega.{arith}
use lib.Dec.{eqb, ltb}
use borrow.Author.Tests.{eqb-true, eqb-false, ne_eqb, ltb-true, ltb-false}
use Rattle.paper.specs.Record.{View}
use Rattle.paper.specs.Rules.{hole_count, node_count, node, Names, NodeRule, under_node, Under}
use Rattle.paper.proofs.ListLaws.{cases}
use Rattle.theory.specs.Trees.{one_if, often}
use Rattle.theory.proofs.Sums.{sum, sum_same, sum_plus, sum-times, sum_one, swap}
use Rattle.theory.proofs.Often.{often_is}
use Rattle.theory.proofs.Named.{
  naming,
  holding,
  times_named,
  times_held,
  kind,
  holds_is,
  unheld,
  leaf_names,
  part_rule,
  fork_names,
  each_named,
  each_held,
  named_once,
}
use Rattle.theory.proofs.Grown.{under_leaf, under-below, often_fork, part_often, part_under}

abbrev times-under : View → ℕ → ℕ → ℕ
times-under v h k = often h (under_node v k)

-- a way down from node j to node k, each node on it a part of the one before
data Way (v : View) (k : ℕ) : ℕ → Type 0 where
  here : Way v k k
  down : {j c : ℕ} → Names v j c → Way v k c → Way v k j

way_on : {v : View} {j k i : ℕ} → Names v j k → Way v j i → Way v k i
way_on n here = down n here
way_on n (down m w) = down m (way_on n w)

-- from one of two nodes a way leads down to the other, or they share no hole
abbrev Placed : View → ℕ → ℕ → Type 0
Placed v j k = Way v k j ⊎ Way v j k ⊎ ((h : ℕ) → Under v h j → Under v h k → ⊥)

module _ (v : View) (rules : (k : ℕ) → k < node_count v → NodeRule v k) where
  -- from the root down: what holds of node 0, and of a node where it holds of the node that names it, holds of every node
  pub root_first : (P : ℕ → Type 0) → P 0 → ((j k : ℕ) → j < node_count v → k < node_count v → Names v j k → P j → P k)
      → (k : ℕ) → k < node_count v → P k
  root_first P at-root at_part k b = go (suc k) k (omega arith) b
    where
      go : (f k : ℕ) → k < f → k < node_count v → P k
      go zero k l b = absurd (omega arith)
      go (suc f) k l b =
          cases (eqb 0 k)
          (λ e. subst P (eqb-true 0 k e) at-root)
          (λ e.
          let n : 0 ≢ k = eqb-false 0 k e in
          let o = named_once v rules k (omega arith) b in
          let c : o.by < node_count v = omega (arith, o.lower) in
          at_part o.by k c b o.names (go f o.by (omega (arith, o.lower)) c))

  module _ (h : ℕ) where
    -- a hole is under a node as often as the node holds it, and as often as it is under the nodes that the node names
    one-node : (k : ℕ) → k < node_count v → times-under v h k ≡ holding v h k + sum (λ c. naming v c k * times-under v h c) (node_count v)
    unfolding often
    one-node k b =
        let a = (node v k).1 in
        kind v k
        (λ l.
        let e = leaf_names v k l (times-under v h) in
        rw (under_leaf v k b l)
        (cases (eqb h a)
        (λ t. rw (t, (holds_is v h k).1 (l, sym (eqb-true h a t))) (omega arith))
        (λ t. rw (t, unheld v h k (λ m q. eqb-false h a t (sym q))) (omega arith))))
        (λ i.
        let e = fork_names v rules k b i (times-under v h) in
        rw (unheld v h k (λ l. absurd (i l))) (omega (arith, often_fork v rules k b i h)))

    all_nodes : sum (times-under v h) (node_count v) ≡ times_held v h + sum (λ c. times_named v c * times-under v h c) (node_count v)
    all_nodes =
        let N = node_count v in
        let part : ℕ → ℕ → ℕ = λ c k. naming v c k * times-under v h c in
        let parts : ℕ → ℕ = λ k. sum (λ c. part c k) N in
        sum_same (times-under v h) (λ k. holding v h k + parts k) N one-node
        ∙ sum_plus (holding v h) parts N
        ∙ ap (λ (s : ℕ). times_held v h + s)
        (sym (swap part N N)
        ∙ sum_same (λ c. sum (part c) N) (λ c. times_named v c * times-under v h c) N (λ c l. sum-times (naming v c) (times-under v h c) N))

    -- and the nodes are node 0 and those that are named
    root-and-named : 0 < node_count v
        → sum (times-under v h) (node_count v) ≡ times-under v h 0 + sum (λ c. times_named v c * times-under v h c) (node_count v)
    root-and-named b =
        let N = node_count v in
        let root : ℕ → ℕ = λ c. one_if (eqb 0 c) * times-under v h c in
        let named : ℕ → ℕ = λ c. times_named v c * times-under v h c in
        let one = sum_one root N 0 b (λ i l n. rw (ne_eqb 0 i (λ e. n (sym e))) (omega arith)) in
        sum_same (times-under v h) (λ c. root c + named c) N (λ c l. omega (arith, ap (λ (s : ℕ). s * times-under v h c) (each_named v rules c l)))
        ∙ sum_plus root named N
        ∙ omega arith

  -- a hole is under the root exactly once, another number under no node, and no number under a node more than once
  pub under_once : (h : ℕ) → h < hole_count v → often h (under_node v 0) ≡ 1
  under_once h b = omega (arith, all_nodes h, root-and-named h (omega arith), each_held v rules h b)

  pub under_none : (k : ℕ) → k < node_count v → (h : ℕ) → hole_count v ≤ h → often h (under_node v k) ≡ 0
  under_none k b h l =
      let o : ¬ (1 ≤ often h (under_node v k)) = λ s. omega (arith, under-below v rules k b h ((often_is h (under_node v k)).0 s)) in
      omega arith

  pub under_at_most : (k : ℕ) → k < node_count v → (h : ℕ) → often h (under_node v k) ≤ 1
  under_at_most k b h =
      root_first (λ k. often h (under_node v k) ≤ 1)
      (cases (ltb h (hole_count v))
      (λ e. omega (arith, under_once h (ltb-true _ _ e)))
      (λ e. omega (arith, under_none 0 (omega arith) h (ltb-false _ _ e))))
      (λ i j a c n o. omega (arith, part_often v rules i j a n h))
      k b

  -- two different parts of a node share no hole
  parts_apart : (j c d : ℕ) → j < node_count v → Names v j c → Names v j d → c ≢ d → (h : ℕ) → Under v h c → Under v h d → ⊥
  parts_apart j c d b m n e h p q =
      let o = under_at_most j b h in
      let f = often_fork v rules j b m.0 h in
      let s = (often_is h (under_node v c)).1 p in
      let t = (often_is h (under_node v d)).1 q in
      ⊎_elim
      (λ x. ⊎_elim (λ y. e (sym x ∙ y)) (λ y. omega (arith, ap (times-under v h) x, ap (times-under v h) y)) n.1)
      (λ x. ⊎_elim (λ y. omega (arith, ap (times-under v h) x, ap (times-under v h) y)) (λ y. e (sym x ∙ y)) n.1) m.1

  way_under : (k j : ℕ) → j < node_count v → Way v k j → (h : ℕ) → Under v h k → Under v h j
  way_under k j b here h m = m
  way_under k j b (down {c = c} n w) h m = part_under v rules j c b n h (way_under k c (part_rule v rules j c b n).node w h m)

  root_way : (k : ℕ) → k < node_count v → Way v k 0
  root_way = root_first (λ k. Way v k 0) here (λ i j a b n w. way_on n w)

  -- a node that names j, and from which a way leads down to k: it is k, or the way goes through j, or through the other part
  way_placed : (i j k : ℕ) → i < node_count v → Names v i j → Way v k i → Placed v j k
  way_placed i j k b n here = inr (inl (down n here))
  way_placed i j k b n (down {c = c} m w) =
      cases (eqb c j)
      (λ e. inl (subst (Way v k) (eqb-true c j e) w))
      (λ e.
      let d : j ≢ c = λ q. eqb-false c j e (sym q) in
      inr (inr (λ h x y. parts_apart i j c b n m d h x (way_under k c (part_rule v rules i c b m).node w h y))))

  placed : (j k : ℕ) → j < node_count v → k < node_count v → Placed v j k
  placed j k a b =
      root_first (λ j. Placed v j k) (inl (root_way k b))
      (λ i j c d n. ⊎_elim (way_placed i j k c n)
      (⊎_elim (λ w. inr (inl (way_on n w))) (λ f. inr (inr (λ h x. f h (part_under v rules i j c n h x))))))
      j a

  -- the holes under two nodes are nested or disjoint
  pub nested : (j k : ℕ) → j < node_count v → k < node_count v
      → ((h : ℕ) → Under v h j → Under v h k) ⊎ ((h : ℕ) → Under v h k → Under v h j) ⊎ ((h : ℕ) → Under v h j → Under v h k → ⊥)
  nested j k a b = ⊎_elim (λ w. inr (inl (way_under k j a w))) (⊎_elim (λ w. inl (way_under j k b w)) (λ f. inr (inr f))) (placed j k a b)

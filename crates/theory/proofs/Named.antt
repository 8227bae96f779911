-- A record's tree made by anyone: where each node meets its rule, every node above 0 is named exactly once and every hole is held by
-- exactly one leaf. The leaves hold different holes, so at most n nodes are leaves; the others name two nodes each, all different and none
-- of them node 0, so at most n - 1 are no leaves; with 2n - 1 nodes both bounds are met. Assumes nothing.
use mathlib.Core.Path.{◌≡◌, refl, sym, subst, ◌∙◌}
use mathlib.Core.Logic.{◌↔◌, ◌≢◌, inl, inr, ⊎_elim}
use mathlib.Core.Bool.{true, false, not}
use Prim.Native.Nat.{ℕ, ◌+◌, ◌*◌, ◌≤◌, ◌<◌}
use native.Mathlib.Omega.{arith}
use lib.Dec.{eqb, ltb}
use borrow.Author.Tests.{eqb-true, eqb-false, eq-eqb, ne_eqb, ltb-true}
use Rattle.paper.specs.Lists.{some_of, below}
use Rattle.paper.specs.Record.{View}
use Rattle.paper.specs.Rules.{hole_count, node_count, node, is_leaf, names, holds, Leaf, Names, PartRule, NodeRule, loose}
use Rattle.paper.proofs.ListLaws.{cases, not_so, and_is, not_is}
use Rattle.theory.proofs.Statements.{names_is, some_below}
use Rattle.theory.specs.Trees.{one_if}
use Rattle.theory.proofs.Sums.{
  sum,
  sum_same,
  sum_plus,
  sum-times,
  sum_each,
  sum-none,
  sum_one,
  sum_two,
  sum_most,
  sum_full,
  swap,
  at_most_one,
  only_one,
}

pub record NamedOnce (v : View) (c : ℕ) : Type 0 where
  pub by : ℕ
  pub lower : by < c
  pub names : Names v by c
  pub only : (j : ℕ) → j < node_count v → Names v j c → j ≡ by

pub record HeldOnce (v : View) (h : ℕ) : Type 0 where
  pub by : ℕ
  pub listed : by < node_count v
  pub leaf : Leaf v by
  pub hole : (node v by).1 ≡ h
  pub only : (j : ℕ) → j < node_count v → Leaf v j → (node v j).1 ≡ h → j ≡ by

module _ (v : View) where
  -- 1 where node k names the node c, and where it is a leaf and holds the hole h; how often a node is named, and a hole held
  abbrev pub naming : ℕ → ℕ → ℕ
  naming c k = one_if (names v c k)

  abbrev pub holding : ℕ → ℕ → ℕ
  holding h k = one_if (holds v h k)

  abbrev pub times_named : ℕ → ℕ
  times_named c = sum (naming c) (node_count v)

  abbrev pub times_held : ℕ → ℕ
  times_held h = sum (holding h) (node_count v)

  -- a node is a leaf or not
  pub kind : {X : Type 0} (k : ℕ) → (Leaf v k → X) → ((Leaf v k → ⊥) → X) → X
  kind k f g = cases (is_leaf v k) (λ e. f (eqb-true _ _ e)) (λ e. g (eqb-false _ _ e))

  unnamed : (c k : ℕ) → (Names v k c → ⊥) → names v c k ≡ false
  unnamed c k f = not_so (λ e. f ((names_is v c k).0 e))

  pub holds_is : (h k : ℕ) → holds v h k ≡ true ↔ Leaf v k × ((node v k).1 ≡ h)
  unfolding holds
  holds_is h k = (
    λ e. let w = (and_is (is_leaf v k) (eqb (node v k).1 h)).0 e in (eqb-true _ _ w.0, eqb-true _ _ w.1),
    λ w. (and_is (is_leaf v k) (eqb (node v k).1 h)).1 (eq-eqb _ _ w.0, eq-eqb _ _ w.1),
  )

  pub unheld : (h k : ℕ) → (Leaf v k → (node v k).1 ≢ h) → holds v h k ≡ false
  unheld h k f = not_so (λ e. let w = (holds_is h k).0 e in f w.0 w.1)

  -- a sum over the nodes that a leaf names, which are none
  pub leaf_names : (k : ℕ) → Leaf v k → (g : ℕ → ℕ) → sum (λ c. naming c k * g c) (node_count v) ≡ 0
  leaf_names k l g = sum-none (λ c. naming c k * g c) (node_count v) (λ c b. rw (unnamed c k (λ n. n.0 l)) (omega arith))

module _ (v : View) (rules : (k : ℕ) → k < node_count v → NodeRule v k) where
  pub part_rule : (k c : ℕ) → k < node_count v → Names v k c → PartRule v k c
  part_rule k c b n =
      let r = (rules k b).fork n.0 in
      ⊎_elim (λ e. subst (PartRule v k) e r.first) (λ e. subst (PartRule v k) e r.second) n.1

  -- and over those that another node names, which are two
  pub fork_names : (k : ℕ) → k < node_count v → (Leaf v k → ⊥) → (g : ℕ → ℕ)
      → sum (λ c. naming v c k * g c) (node_count v) ≡ g (node v k).0 + g (node v k).1
  fork_names k b i g =
      let r = (rules k b).fork i in
      sum_two (λ c. naming v c k * g c) (node_count v) (node v k).0 (node v k).1 r.first.node r.second.node r.different
      (λ c l p q. rw (unnamed v c k (λ n. ⊎_elim (λ e. p (sym e)) (λ e. q (sym e)) n.1)) (omega arith))
      ∙ rw ((names_is v (node v k).0 k).1 (i, inl refl), (names_is v (node v k).1 k).1 (i, inr refl)) (omega arith)

  -- a node holds one hole and names none, or it names two nodes and holds none
  two_each : (k : ℕ) → k < node_count v → sum (λ h. holding v h k) (hole_count v) * 2 + sum (λ c. naming v c k) (node_count v) ≡ 2
  two_each k b =
      let n = sum_same (λ c. naming v c k) (λ c. naming v c k * 1) (node_count v) (λ c l. omega arith) in
      kind v k
      (λ l.
      let a = (node v k).1 in
      let s = sum_one (λ h. holding v h k) (hole_count v) a ((rules k b).leaf l).hole (λ h c d. rw (unheld v h k (λ m e. d (sym e)))) in
      let t : holding v a k ≡ 1 = rw ((holds_is v a k).1 (l, refl)) in
      omega (arith, leaf_names v k l (λ c. 1)))
      (λ i.
      let s = sum-none (λ h. holding v h k) (hole_count v) (λ h c. rw (unheld v h k (λ l. absurd (i l)))) in
      omega (arith, fork_names k b i (λ c. 1)))

  two_all : sum (times_held v) (hole_count v) * 2 + sum (times_named v) (node_count v) ≡ 2 * node_count v
  two_all =
      let N = node_count v in
      let held : ℕ → ℕ = λ k. sum (λ h. holding v h k) (hole_count v) in
      let named : ℕ → ℕ = λ k. sum (λ c. naming v c k) N in
      rw (
        swap (holding v) (hole_count v) N,
        swap (naming v) N N,
        ← sum-times held 2 N,
        ← sum_plus (λ k. held k * 2) named N,
      )
      (sum_each (λ k. held k * 2 + named k) 2 N two_each)

  -- what a node names no lower-numbered node names, what a leaf holds no lower-numbered leaf holds, and no node names node 0
  named_new : (c i j : ℕ) → j < i → i < node_count v → names v c i ≡ true → names v c j ≡ false
  named_new c i j l b e = unnamed v c j ((part_rule i c b ((names_is v c i).0 e)).new j l)

  held_new : (h i j : ℕ) → j < i → i < node_count v → holds v h i ≡ true → holds v h j ≡ false
  held_new h i j l b e = let w = (holds_is v h i).0 e in unheld v h j (λ m q. ((rules i b).leaf w.0).new j l m (q ∙ sym w.1))

  named_at_most : (c : ℕ) → one_if (eqb 0 c) + times_named v c ≤ 1
  named_at_most c =
      cases (eqb 0 c)
      (λ e.
      let z : 0 ≡ c = eqb-true 0 c e in
      rw e (omega (arith, sum-none (naming v c) (node_count v) (λ k b. rw (unnamed v c k (λ n. omega (arith, (part_rule k c b n).above)))))))
      (λ e. rw e (omega (arith, at_most_one (names v c) (node_count v) (named_new c))))

  held_at_most : (h : ℕ) → times_held v h ≤ 1
  held_at_most h = at_most_one (holds v h) (node_count v) (held_new h)

  -- so both bounds are met
  bounds : 0 < node_count v
      → (node_count v ≤ sum (λ c. one_if (eqb 0 c) + times_named v c) (node_count v)) × (hole_count v ≤ sum (times_held v) (hole_count v))
  bounds b =
      let N = node_count v in
      let p = sum_plus (λ c. one_if (eqb 0 c)) (times_named v) N in
      let o = sum_one (λ c. one_if (eqb 0 c)) N 0 b (λ i l n. rw (ne_eqb 0 i (λ e. n (sym e)))) in
      let s = sum_most (λ c. one_if (eqb 0 c) + times_named v c) N (λ i l. named_at_most i) in
      let t = sum_most (times_held v) (hole_count v) (λ i l. held_at_most i) in
      let u = two_all in
      (omega arith, omega arith)

  -- node 0 is not named, and every other node once
  pub each_named : (c : ℕ) → c < node_count v → one_if (eqb 0 c) + times_named v c ≡ 1
  each_named c b = sum_full (λ c. one_if (eqb 0 c) + times_named v c) (node_count v) (λ i l. named_at_most i) (bounds (omega arith)).0 c b

  pub each_held : (h : ℕ) → h < hole_count v → times_held v h ≡ 1
  each_held h b = sum_full (times_held v) (hole_count v) (λ i l. held_at_most i) (bounds (omega arith)).1 h b

  pub named_once : (c : ℕ) → 0 < c → c < node_count v → NamedOnce v c
  named_once c a b =
      let e : times_named v c ≡ 1 = omega (arith, rw (ne_eqb 0 c (omega arith)) at (each_named c b)) in
      let o = only_one (names v c) (node_count v) (named_new c) (omega arith) in
      let n = (names_is v c o.which).0 o.holds in
      record { by = o.which; lower = (part_rule o.which c o.within n).above; names = n; only = λ j l m. o.only j l ((names_is v c j).1 m) }

  pub held_once : (h : ℕ) → h < hole_count v → HeldOnce v h
  held_once h b =
      let e = each_held h b in
      let o = only_one (holds v h) (node_count v) (held_new h) (omega arith) in
      let w = (holds_is v h o.which).0 o.holds in
      record { by = o.which; listed = o.within; leaf = w.0; hole = w.1; only = λ j l m q. o.only j l ((holds_is v h j).1 (m, q)) }

  -- refusal 12 is never met
  pub not_loose : (k : ℕ) → k < node_count v → loose v k ≡ false
  unfolding loose
  not_loose k b =
      not_so
      (λ e.
      let found = some_of (names v k) (below (node_count v)) in
      let w = (and_is (ltb 0 k) (not found)).0 e in
      let o = named_once k (ltb-true 0 k w.0) b in
      (not_is found).0 w.1 (some_below (names v k) (node_count v) o.by (omega (arith, o.lower)) ((names_is v k o.by).1 o.names)))

-- The numbers of a tree's nodes where they are numbered as they are met. Each part's numbers are a stretch of their own behind the node's, so
-- every number is one node's, no two nodes have a part in common, and every node but the root is a part of one. Assumes nothing.
use mathlib.Core.Path.{◌≡◌, refl, sym, ap, ◌∙◌}
use mathlib.Core.Logic.{◌≢◌, ◌⊎◌, inl, inr, ⊎_elim}
use Prim.Native.Nat.{ℕ, suc, ◌+◌, ◌*◌, ◌≤◌, ◌<◌}
use native.Mathlib.Omega.{arith}
use lib.Dec.{eqb, ltb}
use lib.ListN.{length, length-append}
use borrow.Author.Tests.{eqb-true, eqb-false, ltb-true, ltb-false}
use Rattle.paper.specs.Tree.{Tree, leaf, fork, number}
use Rattle.paper.specs.Record.{entries}
use Rattle.paper.proofs.ListLaws.{cases}
use Rattle.theory.specs.Trees.{leaves, Met, times}
use Rattle.theory.proofs.Subtrees.{Sub, whole, in_first, in_second, sub_times, leaf_under, some_leaf, number_met}

-- a tree of n leaves has 2n - 1 nodes
pub length-entries : (t : Tree) → suc (length (entries t)) ≡ 2 * leaves t
unfolding entries leaves
length-entries (leaf k x) = refl
length-entries (fork k a b) = rw length-append (omega (arith, length-entries a, length-entries b))

-- the hole of two leaves is under the root twice
two_leaves : {x i j : ℕ} {a b t : Tree} → i ≢ j → a ≡ leaf i x → b ≡ leaf j x → Sub a t → Sub b t → 2 ≤ times x t
unfolding times
two_leaves {i = i} {j = j} ne p q whole whole = let e : i ≡ j = cc in absurd (ne e)
two_leaves ne p q whole (in_first w) = cc
two_leaves ne p q whole (in_second w) = cc
two_leaves ne p q (in_first u) whole = cc
two_leaves ne p q (in_second u) whole = cc
two_leaves ne p q (in_first u) (in_first w) = omega (arith, two_leaves ne p q u w)
two_leaves ne p q (in_first u) (in_second w) = omega (arith, leaf_under (rw p at u), leaf_under (rw q at w))
two_leaves ne p q (in_second u) (in_first w) = omega (arith, leaf_under (rw p at u), leaf_under (rw q at w))
two_leaves ne p q (in_second u) (in_second w) = omega (arith, two_leaves ne p q u w)

pub twice : {x i j : ℕ} {t : Tree} → i ≢ j → Sub (leaf i x) t → Sub (leaf j x) t → 2 ≤ times x t
twice ne u w = two_leaves ne refl refl u w

-- each hole under a tree is below n, and is there once
pub record Once (n : ℕ) (t : Tree) : Type 0 where
  pub within : (p : ℕ) → 1 ≤ times p t → p < n
  pub once : (p : ℕ) → times p t ≤ 1

pub once_sub : {n : ℕ} {s t : Tree} → Sub s t → Once n t → Once n s
once_sub u o = record { within = λ p h. o.within p (omega (arith, sub_times p u)); once = λ p. omega (arith, o.once p, sub_times p u) }

-- c is the number of a part of s
abbrev pub Part : ℕ → Tree → Type 0
Part c (leaf k x) = ⊥
Part c (fork k a b) = (number a ≡ c) ⊎ (number b ≡ c)

-- of a tree numbered from m as it is met, the numbers of the parts are among the 2n - 2 behind m
root_part : (m c k : ℕ) (a b : Tree) → Met m (fork k a b) → Part c (fork k a b) → (c ≡ m + 1) ⊎ (c ≡ m + 2 * leaves a)
root_part m c k a b met p =
    ⊎_elim (λ q. inl (sym q ∙ number_met (m + 1) a met.1)) (λ q. inr (sym q ∙ number_met (m + 2 * leaves a) b met.2)) p

pub part_range : (m c : ℕ) {s t : Tree} → Met m t → Sub s t → Part c s → (m < c) × (suc c < m + 2 * leaves t)
unfolding leaves
part_range m c {s = leaf k x} met whole p = absurd p
part_range m c {s = fork k a b} met whole p =
    ⊎_elim (λ q. omega (arith, some_leaf a, some_leaf b)) (λ q. omega (arith, some_leaf a, some_leaf b)) (root_part m c k a b met p)
part_range m c met (in_first {b = b} u) p = let r = part_range (m + 1) c met.1 u p in omega (arith, some_leaf b)
part_range m c met (in_second {a = a} u) p = let r = part_range (m + 2 * leaves a) c met.2 u p in omega (arith, some_leaf a)

-- no two nodes have a part in common
below-first : (m c k : ℕ) (a b : Tree) {u : Tree} → Met m (fork k a b) → Sub u a → Part c (fork k a b) → Part c u → ⊥
below-first m c k a b met i p q =
    let r = part_range (m + 1) c met.1 i q in
    ⊎_elim (λ e. omega arith) (λ e. omega arith) (root_part m c k a b met p)

below_second : (m c k : ℕ) (a b : Tree) {u : Tree} → Met m (fork k a b) → Sub u b → Part c (fork k a b) → Part c u → ⊥
below_second m c k a b met j p q =
    let r = part_range (m + 2 * leaves a) c met.2 j q in
    ⊎_elim (λ e. omega (arith, some_leaf a)) (λ e. omega (arith, some_leaf a)) (root_part m c k a b met p)

sides_apart : (m c k : ℕ) (a b : Tree) {s u : Tree} → Met m (fork k a b) → Sub s a → Sub u b → Part c s → Part c u → ⊥
sides_apart m c k a b met i j p q =
    let r = part_range (m + 1) c met.1 i p in
    let l = part_range (m + 2 * leaves a) c met.2 j q in
    omega arith

pub one_whole : (m c : ℕ) {s u t : Tree} → Met m t → Sub s t → Sub u t → Part c s → Part c u → s ≡ u
one_whole m c met whole whole p q = refl
one_whole m c met (whole {t = fork k a b}) (in_first j) p q = absurd (below-first m c k a b met j p q)
one_whole m c met (whole {t = fork k a b}) (in_second j) p q = absurd (below_second m c k a b met j p q)
one_whole m c {t = fork k a b} met (in_first i) whole p q = absurd (below-first m c k a b met i q p)
one_whole m c {t = fork k a b} met (in_second i) whole p q = absurd (below_second m c k a b met i q p)
one_whole m c met (in_first i) (in_first j) p q = one_whole (m + 1) c met.1 i j p q
one_whole m c {t = fork k a b} met (in_first i) (in_second j) p q = absurd (sides_apart m c k a b met i j p q)
one_whole m c {t = fork k a b} met (in_second i) (in_first j) p q = absurd (sides_apart m c k a b met j i q p)
one_whole m c {t = fork k a b} met (in_second i) (in_second j) p q = one_whole (m + 2 * leaves a) c met.2 i j p q

-- every number is a node's
pub node_at : (m k : ℕ) (t : Tree) → Met m t → m ≤ k → suc k < m + 2 * leaves t → (s : Tree) × Sub s t × (number s ≡ k)
unfolding leaves number
node_at m k (leaf j x) met h l = (leaf j x, whole, omega arith)
node_at m k (fork j a b) met h l =
    cases (eqb k j)
    (λ e. (fork j a b, whole, sym (eqb-true k j e)))
    (λ e. cases (ltb k (m + 2 * leaves a))
    (λ f. let r = node_at (m + 1) k a met.1 (omega (arith, eqb-false k j e)) (omega (arith, ltb-true)) in (r.0, in_first r.1, r.2))
    (λ f. let r = node_at (m + 2 * leaves a) k b met.2 (ltb-false _ _ f) (omega arith) in (r.0, in_second r.1, r.2)))

-- every node but the root is a part of one
pub part_of : {s t : Tree} → Sub s t → (s ≡ t) ⊎ ((w : Tree) × Sub w t × Part (number s) w)
part_of whole = inl refl
part_of (in_first {a = a} {b = b} {k = k} u) =
    inr (⊎_elim (λ e. (fork k a b, whole, inl (ap number (sym e)))) (λ r. (r.0, in_first r.1, r.2)) (part_of u))
part_of (in_second {a = a} {b = b} {k = k} u) =
    inr (⊎_elim (λ e. (fork k a b, whole, inr (ap number (sym e)))) (λ r. (r.0, in_second r.1, r.2)) (part_of u))

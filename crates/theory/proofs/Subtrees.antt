-- The nodes of a tree: `Sub s t` says that s is t or lies in a part of t, and `Facing t A B` that A lies in the first part and B in the
-- second part of one node of t, as all nodes do that are compared. Every law goes down the tree, by induction. Assumes nothing.
use mathlib.Core.Path.{◌≡◌, refl}
use Prim.Native.Nat.{ℕ, ◌+◌, ◌*◌, ◌-◌, ◌≤◌, ◌<◌}
use native.Mathlib.Nat.{le_refl}
use native.Mathlib.Omega.{arith}
use lib.ListN.{length, length-append}
use borrow.Author.Tests.{eq-eqb}
use Rattle.paper.specs.Tree.{Tree, leaf, fork, number, under}
use Rattle.theory.specs.Trees.{leaves, times, often, Met}
use Rattle.theory.proofs.Often.{often-append}

pub data Sub : Tree → Tree → Type 0 where
  whole : {t : Tree} → Sub t t
  in_first : {s a b : Tree} {k : ℕ} → Sub s a → Sub s (fork k a b)
  in_second : {s a b : Tree} {k : ℕ} → Sub s b → Sub s (fork k a b)

pub sub_trans : {r s t : Tree} → Sub r s → Sub s t → Sub r t
sub_trans p whole = p
sub_trans p (in_first q) = in_first (sub_trans p q)
sub_trans p (in_second q) = in_second (sub_trans p q)

-- the parts of a node of t are nodes of t
pub sub_first : {k : ℕ} {a b t : Tree} → Sub (fork k a b) t → Sub a t
sub_first q = sub_trans (in_first whole) q

pub sub_second : {k : ℕ} {a b t : Tree} → Sub (fork k a b) t → Sub b t
sub_second q = sub_trans (in_second whole) q

-- a node has each hole at most as often as the tree, and at most as many leaves
pub sub_times : (x : ℕ) {s t : Tree} → Sub s t → times x s ≤ times x t
unfolding times
sub_times x whole = le_refl _
sub_times x (in_first q) = omega (arith, sub_times x q)
sub_times x (in_second q) = omega (arith, sub_times x q)

pub sub_leaves : {s t : Tree} → Sub s t → leaves s ≤ leaves t
unfolding leaves
sub_leaves whole = le_refl _
sub_leaves (in_first q) = omega (arith, sub_leaves q)
sub_leaves (in_second q) = omega (arith, sub_leaves q)

-- the hole of a leaf is under it once
pub leaf_times : (i x y : ℕ) → x ≡ y → times x (leaf i y) ≡ 1
unfolding times
leaf_times i x y e = rw (eq-eqb x y e)

pub leaf_under : {i x : ℕ} {t : Tree} → Sub (leaf i x) t → 1 ≤ times x t
leaf_under {i} {x} q = omega (arith, leaf_times i x x refl, sub_times x q)

-- there is a leaf under every node
pub some_leaf : (t : Tree) → 1 ≤ leaves t
unfolding leaves
some_leaf (leaf k x) = le_refl 1
some_leaf (fork k a b) = omega (arith, some_leaf a)

-- in a tree that is numbered as its nodes are met, so is each node; from k on, a tree of n leaves has numbers up to k + 2n - 2
pub number_met : (k : ℕ) (t : Tree) → Met k t → number t ≡ k
unfolding number
number_met k (leaf j x) m = m
number_met k (fork j a b) m = m.0

pub sub_met : {s t : Tree} (k : ℕ) → Sub s t → Met k t → Met (number s) s
sub_met k (whole {t = t}) m = rw (number_met k t m) m
sub_met k (in_first q) m = sub_met (k + 1) q m.1
sub_met k (in_second {a = a} q) m = sub_met (k + 2 * leaves a) q m.2

pub sub_number : {s t : Tree} (k : ℕ) → Sub s t → Met k t → (k ≤ number s) × (number s + 1 < k + 2 * leaves t)
unfolding leaves
sub_number k (whole {t = t}) m = omega (arith, number_met k t m, some_leaf t)
sub_number k (in_first {b = b} q) m = omega (arith, sub_number (k + 1) q m.1, some_leaf b)
sub_number k (in_second {a = a} q) m = omega (arith, sub_number (k + 2 * leaves a) q m.2)

pub sub_below : {s t : Tree} → Sub s t → Met 0 t → number s < 2 * leaves t - 1
sub_below q m = omega (arith, sub_number 0 q m)

-- the holes under a node, as a list
pub length-under : (t : Tree) → length (under t) ≡ leaves t
unfolding under leaves
length-under (leaf k x) = refl
length-under (fork k a b) = rw (length-append, length-under a, length-under b)

pub often-under : (x : ℕ) (t : Tree) → often x (under t) ≡ times x t
unfolding under times often
often-under x (leaf k y) = omega arith
often-under x (fork k a b) = rw (often-append, often-under x a, often-under x b)

-- a node that is not a leaf has two or more, each at most as often as the tree
pub fork_holes : {k : ℕ} {a b t : Tree} → Sub (fork k a b) t
    → (2 ≤ length (under (fork k a b))) × ((x : ℕ) → often x (under (fork k a b)) ≤ times x t)
unfolding leaves
fork_holes {k} {a} {b} q = (
  omega (arith, length-under (fork k a b), some_leaf a, some_leaf b),
  λ x. omega (arith, often-under x (fork k a b), sub_times x q),
)

pub record Facing (t A B : Tree) : Type 0 where
  pub place : ℕ
  pub one : Tree
  pub two : Tree
  pub node : Sub (fork place one two) t
  pub first : Sub A one
  pub second : Sub B two

-- the two parts of a node face each other
pub facing_parts : {k : ℕ} {a b t : Tree} → Sub (fork k a b) t → Facing t a b
facing_parts {k} {a} {b} q = record { place = k; one = a; two = b; node = q; first = whole; second = whole }

module _ {t A B : Tree} (w : Facing t A B) where
  -- both are nodes of t, and so are the nodes of one against the other
  pub facing_first : Sub A t
  facing_first = sub_trans (in_first w.first) w.node

  pub facing_second : Sub B t
  facing_second = sub_trans (in_second w.second) w.node

  pub facing_down : {C D : Tree} → Sub C A → Sub D B → Facing t C D
  facing_down p q = record {
    place = w.place;
    one = w.one;
    two = w.two;
    node = w.node;
    first = sub_trans p w.first;
    second = sub_trans q w.second;
  }

  -- what is under them is under different parts of a node
  pub facing_times : (x : ℕ) → times x A + times x B ≤ times x t
  unfolding times
  facing_times x = omega (arith, sub_times x w.first, sub_times x w.second, sub_times x w.node)

  -- and the first is met before the second
  pub facing_number : (k : ℕ) → Met k t → number A < number B
  unfolding number
  facing_number k m =
      let j = w.place in
      let n = sub_met k w.node m in
      omega (arith, sub_number (j + 1) w.first n.1, sub_number (j + 2 * leaves w.one) w.second n.2)

-- The pair rule of document 01 lists the pairs that `Covering` speaks of, so every two different holes are covered by exactly one of them: a
-- leaf's side is 0 and any other node's is not, so the longer side is a leaf's only where both nodes are leaves, and two leaves with
-- different holes are separated. No tree has more than n (n - 1) / 2 pairs. Assumes nothing.
use mathlib.Core.Path.{◌≡◌, refl}
use mathlib.Core.Logic.{◌≢◌}
use mathlib.Core.Bool.{Bool, true, false}
use mathlib.Core.List.{List}
use Prim.Native.Nat.{ℕ, ◌+◌, ◌*◌, ◌-◌, ◌/◌, ◌≤◌, ◌<◌}
use native.Mathlib.Omega.{arith}
use lib.Dec.{ltb}
use lib.ListN.{length, length-append}
use borrow.Author.Tests.{ltb-true, ltb-false}
use Rattle.paper.specs.Lists.{keep, count}
use Rattle.paper.specs.Tree.{Tree, leaf, fork}
use Rattle.paper.specs.Pairs.{compared, pairs}
use Rattle.paper.proofs.ListLaws.{by_case, both}
use Rattle.theory.specs.Trees.{leaves, times}
use Rattle.theory.proofs.EachLaws.{keep_split}
use Rattle.theory.proofs.Subtrees.{Sub, whole, in_first, in_second, sub_first, sub_second, leaf_times, Facing, facing_parts, facing_first, facing_second, facing_down, facing_times}
use Rattle.theory.proofs.Covering.{listed, listed_far, listed_first, listed_second, listing, parts, listing_covers, listing_bound, at_most}
use Rattle.theory.proofs.PairRules.{apart, listed_by, pairs_leaf, pairs_fork, WhenFar, WhenFirst, WhenSecond, compared-ind}

-- what the pair rule asks of a tree, a separation test and a measure of a node's side
pub record Regular (far : Tree → Tree → Bool) (side : Tree → ℕ) (t : Tree) : Type 0 where
  pub once : (x : ℕ) → times x t ≤ 1
  pub leaves_far : (i x j y : ℕ) → Sub (leaf i x) t → Sub (leaf j y) t → x ≢ y → far (leaf i x) (leaf j y) ≡ true
  pub flat : (i x : ℕ) → Sub (leaf i x) t → side (leaf i x) ≡ 0
  pub wide : (i : ℕ) (a b : Tree) → Sub (fork i a b) t → 1 ≤ side (fork i a b)

-- a node that has two parts
abbrev pub Parted : Tree → Type 0
Parted s = (i : ℕ) × (a : Tree) × (b : Tree) × (s ≡ fork i a b)

-- "the node with the longer side is split .. On a tie B is split"
abbrev pub longer : (Tree → ℕ) → Tree → Tree → Tree
longer side A B = elim (ltb (side B) (side A)) [ true ↦ A | false ↦ B ]

module _ (far : Tree → Tree → Bool) (side : Tree → ℕ) where
  -- the rule as written lists no more than the easier form
  listed_fewer : (A B : Tree) → length (listed_by far side A B) ≤ length (listed far side A B)
  listed_fewer =
      let kept = apart far in
      compared-ind far side (λ A B l. length (keep kept l) ≤ length (listed far side A B))
      (λ A B e. rw (listed_far far side A B e, e, keep) (omega arith))
      (λ i a b B l r e h v w. rw (keep_split kept (fork i a b, B) l r e, listed_first far side i a b B e h) (simp length-append (omega arith)))
      (λ A j c d l r e h v w. rw (keep_split kept (A, fork j c d) l r e, listed_second far side A j c d e h) (simp length-append (omega arith)))
      (λ i x B e h. rw (e, keep) (omega arith))
      (λ A j y e h. rw (e, keep) (omega arith))

  pairs_fewer : (t : Tree) → length (pairs far side t) ≤ length (listing far side t)
  unfolding listing
  pairs_fewer (leaf k x) = rw pairs_leaf (omega arith)
  pairs_fewer (fork k a b) = rw pairs_fork (simp length-append (omega (arith, listed_fewer a b, pairs_fewer a, pairs_fewer b)))

  -- so a tree of n leaves has at most n (n - 1) / 2 pairs
  pub pairs_bound : (t : Tree) → 2 * length (pairs far side t) + leaves t ≤ leaves t * leaves t
  pairs_bound t = omega (arith, pairs_fewer t, listing_bound far side t)

  pub pairs_at_most : (t : Tree) → length (pairs far side t) ≤ leaves t * (leaves t - 1) / 2
  pairs_at_most t = at_most (length (pairs far side t)) (leaves t) (pairs_bound t)

  module _ {t : Tree} (regular : Regular far side t) where
    -- "Two leaves are always separated"
    pub two-leaves : (i x j y : ℕ) → Facing t (leaf i x) (leaf j y) → far (leaf i x) (leaf j y) ≡ true
    two-leaves i x j y f =
        regular.leaves_far i x j y (facing_first f) (facing_second f)
        (λ e. omega (arith, leaf_times i x x refl, leaf_times j x y e, facing_times f x, regular.once x))

    -- "so a leaf is never split": a first leaf, a second leaf, and the node that is split
    pub never-split-first : (i x : ℕ) (B : Tree) → Sub (leaf i x) t → side B < side (leaf i x) → ⊥
    never-split-first i x B q h = omega (arith, regular.flat i x q)

    pub never-split-second : (A : Tree) (j y : ℕ) → Facing t A (leaf j y) → far A (leaf j y) ≡ false → side A ≤ side (leaf j y) → ⊥
    never-split-second (leaf i x) j y f e h = both (two-leaves i x j y f) e
    never-split-second (fork i a b) j y f e h = omega (arith, regular.flat j y (facing_second f), regular.wide i a b (facing_first f))

    pub split-parted : (A B : Tree) → Facing t A B → far A B ≡ false → Parted (longer side A B)
    split-parted A B f e = by_case Parted (ltb (side B) (side A)) (λ h. first A (facing_first f) (ltb-true _ _ h)) (λ h. second B f e (ltb-false _ _ h))
      where
        first : (A : Tree) → Sub A t → side B < side A → Parted A
        first (leaf i x) q h = absurd (never-split-first i x B q h)
        first (fork i a b) q h = (i, a, b, refl)

        second : (B : Tree) → Facing t A B → far A B ≡ false → side A ≤ side B → Parted B
        second (leaf j y) f e h = absurd (never-split-second A j y f e h)
        second (fork j c d) f e h = (j, c, d, refl)

    -- so an induction over a comparison of nodes that face each other has no split of a leaf
    module _ (P : Tree → Tree → List (Tree × Tree) → Type 0)
        (separated : WhenFar far side P) (first : WhenFirst far side P) (second : WhenSecond far side P) where
      pub facing-ind : (A B : Tree) → Facing t A B → P A B (compared far side A B)
      facing-ind =
          compared-ind far side (λ A B l. Facing t A B → P A B l)
          (λ A B e f. separated A B e)
          (λ i a b B l r e h v w f. first i a b B l r e h (v (facing_down f (in_first whole) whole)) (w (facing_down f (in_second whole) whole)))
          (λ A j c d l r e h v w f. second A j c d l r e h (v (facing_down f whole (in_first whole))) (w (facing_down f whole (in_second whole))))
          (λ i x B e h f. absurd (never-split-first i x B (facing_first f) h))
          (λ A j y e h f. absurd (never-split-second A j y f e h))

    -- and the rule as written lists what the easier form does
    pub listed_same : (A B : Tree) → Facing t A B → listed_by far side A B ≡ listed far side A B
    listed_same =
        let kept = apart far in
        facing-ind (λ A B l. keep kept l ≡ listed far side A B)
        (λ A B e. rw (listed_far far side A B e, e, keep))
        (λ i a b B l r e h v w. rw (keep_split kept (fork i a b, B) l r e, listed_first far side i a b B e h, v, w))
        (λ A j c d l r e h v w. rw (keep_split kept (A, fork j c d) l r e, listed_second far side A j c d e h, v, w))

    node-listing : (s : Tree) → Sub s t → pairs far side s ≡ listing far side s
    unfolding listing
    node-listing (leaf k x) q = pairs_leaf far side k x
    node-listing (fork k a b) q =
        rw (pairs_fork far side k a b, listed_same a b (facing_parts q), node-listing a (sub_first q), node-listing b (sub_second q))

    pub pairs-listing : pairs far side t ≡ listing far side t
    pairs-listing = node-listing t whole

    -- "every two different holes p, q have exactly one pair with p under one side and q under the other"
    pub pairs-cover : (p q : ℕ) → p ≢ q → times p t ≡ 1 → times q t ≡ 1 → count (parts p q) (pairs far side t) ≡ 1
    pairs-cover p q ne e f = rw pairs-listing (listing_covers far side p q ne t e f)

-- What is compared, and so what is listed, are two nodes of the tree, one in the first part and one in the second part of some node: a
-- split goes to a node's own parts. So in a tree of n leaves numbered from 0 as its nodes are met, a pair's first number is below its second,
-- and that is below 2n - 1. Over any separation test and any measure of a side. Assumes nothing.
use mathlib.Core.Bool.{Bool}
use mathlib.Core.List.{◌++◌}
use Prim.Native.Nat.{ℕ, ◌*◌, ◌-◌, ◌<◌}
use Rattle.paper.specs.Tree.{Tree, leaf, fork, number}
use Rattle.paper.specs.Pairs.{compared, comparisons, pairs}
use Rattle.theory.specs.Trees.{Each, leaves, Met}
use Rattle.theory.proofs.EachLaws.{each_append, each_map, each_keep}
use Rattle.theory.proofs.Subtrees.{
  Sub,
  whole,
  in_first,
  in_second,
  sub_first,
  sub_second,
  sub_below,
  Facing,
  facing_parts,
  facing_first,
  facing_second,
  facing_down,
  facing_number,
}
use Rattle.theory.proofs.PairRules.{apart, compared-ind}

module _ (far : Tree → Tree → Bool) (side : Tree → ℕ) where
  pub compared_sub : (A B : Tree) → Each (λ r. Sub r.0 A × Sub r.1 B) (compared far side A B)
  compared_sub =
      let In : Tree → Tree → Tree × Tree → Type 0 = λ A B r. Sub r.0 A × Sub r.1 B in
      compared-ind far side (λ A B l. Each (In A B) l)
      (λ A B e. ((whole, whole), tt))
      (λ i a b B l r e h v w. (
        (whole, whole),
        each_append (In (fork i a b) B) l r (each_map (λ s u. (in_first u.0, u.1)) l v) (each_map (λ s u. (in_second u.0, u.1)) r w),
      ))
      (λ A j c d l r e h v w. (
        (whole, whole),
        each_append (In A (fork j c d)) l r (each_map (λ s u. (u.0, in_first u.1)) l v) (each_map (λ s u. (u.0, in_second u.1)) r w),
      ))
      (λ i x B e h. ((whole, whole), tt))
      (λ A j y e h. ((whole, whole), tt))

  module _ (t : Tree) where
    abbrev Faced : Tree × Tree → Type 0
    Faced r = Facing t r.0 r.1

    below-node : (s : Tree) → Sub s t → Each Faced (comparisons far side s)
    unfolding comparisons
    below-node (leaf k x) q = tt
    below-node (fork k a b) q =
        each_append Faced (compared far side a b ++ comparisons far side a) (comparisons far side b)
        (each_append Faced (compared far side a b) (comparisons far side a)
        (each_map (λ r u. facing_down (facing_parts q) u.0 u.1) (compared far side a b) (compared_sub a b))
        (below-node a (sub_first q)))
        (below-node b (sub_second q))

    pub comparisons-facing : Each (λ r. Facing t r.0 r.1) (comparisons far side t)
    comparisons-facing = below-node t whole

    pub pairs-facing : Each (λ r. Facing t r.0 r.1) (pairs far side t)
    unfolding pairs
    pairs-facing = each_keep (apart far) (λ r f e. f) (comparisons far side t) comparisons-facing

    -- a pair's nodes are nodes of t
    pub pairs-sub : Each (λ r. Sub r.0 t × Sub r.1 t) (pairs far side t)
    pairs-sub = each_map (λ r f. (facing_first f, facing_second f)) (pairs far side t) pairs-facing

    -- and their numbers, in order, are numbers of nodes
    pub pairs-numbers : Met 0 t → Each (λ r. (number r.0 < number r.1) × (number r.1 < 2 * leaves t - 1)) (pairs far side t)
    pairs-numbers m = each_map (λ r f. (facing_number f 0 m, sub_below (facing_second f) m)) (pairs far side t) pairs-facing

-- How many comparisons the pair rule makes: 2m - (n - 1) for the m pairs of a tree of n leaves. A comparison lists a pair or splits into two,
-- so each of the n - 1 that the nodes start makes one less than twice the pairs that it lists. Assumes nothing.
use mathlib.Core.Path.{◌≡◌}
use mathlib.Core.Bool.{Bool}
use Prim.Native.Nat.{ℕ, ◌+◌, ◌*◌, ◌-◌}
use native.Mathlib.Omega.{arith}
use lib.ListN.{length, length-append}
use Rattle.paper.specs.Lists.{keep}
use Rattle.paper.specs.Tree.{Tree, leaf, fork}
use Rattle.paper.specs.Pairs.{compared, comparisons, pairs}
use Rattle.theory.specs.Trees.{leaves}
use Rattle.theory.proofs.EachLaws.{keep_split}
use Rattle.theory.proofs.Subtrees.{Sub, whole, sub_first, sub_second, some_leaf, Facing, facing_parts}
use Rattle.theory.proofs.PairRules.{apart, listed_by, comparisons_leaf, comparisons_fork, pairs_leaf, pairs_fork}
use Rattle.theory.proofs.Pairing.{Regular, facing-ind}

module _ (far : Tree → Tree → Bool) (side : Tree → ℕ) {t : Tree} (regular : Regular far side t) where
  pub compared-count : (A B : Tree) → Facing t A B → length (compared far side A B) + 1 ≡ 2 * length (listed_by far side A B)
  compared-count =
      let kept = apart far in
      facing-ind far side regular (λ A B l. length l + 1 ≡ 2 * length (keep kept l))
      (λ A B e. rw (e, keep))
      (λ i a b B l r e h v w. rw (keep_split kept (fork i a b, B) l r e) (simp length-append (omega arith)))
      (λ A j c d l r e h v w. rw (keep_split kept (A, fork j c d) l r e) (simp length-append (omega arith)))

  below-node : (s : Tree) → Sub s t → length (comparisons far side s) + leaves s ≡ 2 * length (pairs far side s) + 1
  unfolding leaves
  below-node (leaf k x) q = rw (comparisons_leaf far side k x, pairs_leaf far side k x)
  below-node (fork k a b) q =
      rw (comparisons_fork far side k a b, pairs_fork far side k a b)
      (simp length-append
      (omega (arith, compared-count a b (facing_parts q), below-node a (sub_first q), below-node b (sub_second q))))

  pub comparisons-count : length (comparisons far side t) + (leaves t - 1) ≡ 2 * length (pairs far side t)
  comparisons-count = omega (arith, below-node t whole, some_leaf t)

  pub comparisons_are : length (comparisons far side t) ≡ 2 * length (pairs far side t) - (leaves t - 1)
  comparisons_are = omega (arith, comparisons-count)

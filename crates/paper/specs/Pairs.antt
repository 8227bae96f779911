-- Document 01, "Pairs": the comparisons that are made, in their order, and the pairs they list. Over any separation test and any
-- measure of a node's side, so that nothing here depends on geometry. Assumes nothing.
use Rattle.std.specs.Prelude.{Bool, true, false, List, [], ◌∷◌, ◌++◌, ℕ, ltb}
use Rattle.paper.specs.Lists.{keep}
use Rattle.paper.specs.Field.{Field}
use Rattle.paper.specs.Tree.{Tree, leaf, fork, tree_of, number}
use Rattle.paper.specs.Separation.{far, side}

module _ (far : Tree → Tree → Bool) (side : Tree → ℕ) where
  -- "If it is not [separated], the node with the longer side is split, and each of its parts is compared with the other node. On a
  -- tie B is split." What comes of a comparison of (A, B), given what splitting A and what splitting B would bring
  abbrev pub follow : Tree → Tree → List (Tree × Tree) → List (Tree × Tree) → List (Tree × Tree)
  follow A B split-A split-B =
      elim (far A B) [
        | true ↦ []
        | false ↦ elim (ltb (side B) (side A)) [ true ↦ split-A | false ↦ split-B ]
      ]

  -- the comparison of (A, B) and all that comes of it. "A stays on the left, B on the right. The first part's comparison is finished,
  -- with all that comes of it, before the second's." A leaf has no parts: splitting one would bring nothing
  unfoldable pub compared : Tree → Tree → List (Tree × Tree)
  compared (leaf i x) (leaf j y) = (leaf i x, leaf j y) ∷ follow (leaf i x) (leaf j y) [] []
  compared (leaf i x) (fork j c d) =
      let split-B : List (Tree × Tree) = compared (leaf i x) c ++ compared (leaf i x) d in
      (leaf i x, fork j c d) ∷ follow (leaf i x) (fork j c d) [] split-B
  compared (fork i a b) (leaf j y) =
      let split-A : List (Tree × Tree) = compared a (leaf j y) ++ compared b (leaf j y) in
      (fork i a b, leaf j y) ∷ follow (fork i a b) (leaf j y) split-A []
  compared (fork i a b) (fork j c d) =
      let split-A : List (Tree × Tree) = compared a (fork j c d) ++ compared b (fork j c d) in
      let split-B : List (Tree × Tree) = compared (fork i a b) c ++ compared (fork i a b) d in
      (fork i a b, fork j c d) ∷ follow (fork i a b) (fork j c d) split-A split-B

  -- "For each node that is not a leaf, in number order, compare its first part with its second"
  unfoldable pub comparisons : Tree → List (Tree × Tree)
  comparisons (leaf k x) = []
  comparisons (fork k a b) = compared a b ++ comparisons a ++ comparisons b

  -- "A comparison of (A, B) that is separated lists the pair"
  unfoldable pub pairs : Tree → List (Tree × Tree)
  pairs t = keep (λ p. far p.0 p.1) (comparisons t)

-- the pairs of a field at the ratio a/b
unfoldable pub pairs_of : Field → ℕ → ℕ → List (Tree × Tree)
pairs_of H a b = pairs (far H a b) (side H) (tree_of H)

-- a pair by its nodes' numbers
abbrev pub numbers : Tree × Tree → ℕ × ℕ
numbers p = (number p.0, number p.1)

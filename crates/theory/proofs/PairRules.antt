-- The pair rule of document 01 as it is written: one law for each way that a comparison can go, for the comparisons and for the pairs they
-- list, and one induction for all that is said of a comparison. Over any separation test and any measure of a side. Assumes nothing.
use mathlib.Core.Path.{◌≡◌, refl}
use mathlib.Core.Bool.{Bool, true, false}
use mathlib.Core.List.{List, [], ◌∷◌, ◌++◌}
use Prim.Native.Nat.{ℕ, ◌≤◌, ◌<◌}
use lib.Dec.{ltb}
use borrow.Author.Tests.{lt-ltb, le-ltb, ltb-true, ltb-false}
use Rattle.paper.specs.Lists.{keep}
use Rattle.paper.specs.Tree.{Tree, leaf, fork}
use Rattle.paper.specs.Pairs.{follow, compared, comparisons, pairs}
use Rattle.paper.proofs.ListLaws.{by_case}
use Rattle.theory.specs.Trees.{Each}
use Rattle.theory.proofs.EachLaws.{each_kept, keep_append, keep_split}

-- whether a pair is separated
abbrev pub apart : (Tree → Tree → Bool) → Tree × Tree → Bool
apart far r = far r.0 r.1

module _ (far : Tree → Tree → Bool) (side : Tree → ℕ) where
  -- the pairs that a comparison of (A, B) lists, with all that comes of it
  abbrev pub listed_by : Tree → Tree → List (Tree × Tree)
  listed_by A B = keep (apart far) (compared far side A B)

  -- what splitting a node brings; a leaf has no parts
  abbrev split_first : Tree → Tree → List (Tree × Tree)
  split_first (leaf i x) B = []
  split_first (fork i a b) B = compared far side a B ++ compared far side b B

  abbrev split_second : Tree → Tree → List (Tree × Tree)
  split_second A (leaf j y) = []
  split_second A (fork j c d) = compared far side A c ++ compared far side A d

  by_sides : (A B : Tree) → compared far side A B ≡ (A, B) ∷ follow far side A B (split_first A B) (split_second A B)
  unfolding compared
  by_sides (leaf i x) (leaf j y) = refl
  by_sides (leaf i x) (fork j c d) = refl
  by_sides (fork i a b) (leaf j y) = refl
  by_sides (fork i a b) (fork j c d) = refl

  -- a comparison that is separated is the only one; else the node with the longer side is split, and the second node on a tie
  pub compared-far : (A B : Tree) → far A B ≡ true → compared far side A B ≡ (A, B) ∷ []
  compared-far A B e = rw (by_sides A B, e, follow)

  pub compared-first : (i : ℕ) (a b B : Tree) → far (fork i a b) B ≡ false → side B < side (fork i a b)
      → compared far side (fork i a b) B ≡ (fork i a b, B) ∷ compared far side a B ++ compared far side b B
  compared-first i a b B e h = rw (by_sides (fork i a b) B, e, lt-ltb (side B) (side (fork i a b)) h, follow)

  pub compared_second : (A : Tree) (j : ℕ) (c d : Tree) → far A (fork j c d) ≡ false → side A ≤ side (fork j c d)
      → compared far side A (fork j c d) ≡ (A, fork j c d) ∷ compared far side A c ++ compared far side A d
  compared_second A j c d e h = rw (by_sides A (fork j c d), e, le-ltb (side (fork j c d)) (side A) h, follow)

  -- the same for the pairs that are listed
  pub rule_far : (A B : Tree) → far A B ≡ true → listed_by A B ≡ (A, B) ∷ []
  rule_far A B e = rw (compared-far A B e, e, keep)

  pub rule_first : (i : ℕ) (a b B : Tree) → far (fork i a b) B ≡ false → side B < side (fork i a b)
      → listed_by (fork i a b) B ≡ listed_by a B ++ listed_by b B
  rule_first i a b B e h = rw (compared-first i a b B e h) (keep_split (apart far) _ (compared far side a B) (compared far side b B) e)

  pub rule_second : (A : Tree) (j : ℕ) (c d : Tree) → far A (fork j c d) ≡ false → side A ≤ side (fork j c d)
      → listed_by A (fork j c d) ≡ listed_by A c ++ listed_by A d
  rule_second A j c d e h = rw (compared_second A j c d e h) (keep_split (apart far) _ (compared far side A c) (compared far side A d) e)

  -- and for a whole tree
  pub comparisons_leaf : (k x : ℕ) → comparisons far side (leaf k x) ≡ []
  unfolding comparisons
  comparisons_leaf k x = refl

  pub comparisons_fork : (k : ℕ) (a b : Tree)
      → comparisons far side (fork k a b) ≡ compared far side a b ++ comparisons far side a ++ comparisons far side b
  unfolding comparisons
  comparisons_fork k a b = refl

  pub pairs_leaf : (k x : ℕ) → pairs far side (leaf k x) ≡ []
  unfolding pairs comparisons
  pairs_leaf k x = refl

  pub pairs_fork : (k : ℕ) (a b : Tree) → pairs far side (fork k a b) ≡ listed_by a b ++ pairs far side a ++ pairs far side b
  unfolding pairs comparisons
  pairs_fork k a b = simp (keep_append (apart far))

  -- every listed pair is separated
  pub pairs-far : (t : Tree) → Each (λ r. far r.0 r.1 ≡ true) (pairs far side t)
  unfolding pairs
  pairs-far t = each_kept (apart far) (comparisons far side t)

  -- what an induction over a comparison shows: of one that is separated, of a split of the first node, of a split of the second, and of the
  -- two splits that would be of a leaf
  module _ (P : Tree → Tree → List (Tree × Tree) → Type 0) where
    abbrev pub WhenFar : Type 0
    WhenFar = (A B : Tree) → far A B ≡ true → P A B ((A, B) ∷ [])

    abbrev pub WhenFirst : Type 0
    WhenFirst = (i : ℕ) (a b B : Tree) (l r : List (Tree × Tree)) → far (fork i a b) B ≡ false → side B < side (fork i a b)
        → P a B l → P b B r → P (fork i a b) B ((fork i a b, B) ∷ l ++ r)

    abbrev pub WhenSecond : Type 0
    WhenSecond = (A : Tree) (j : ℕ) (c d : Tree) (l r : List (Tree × Tree)) → far A (fork j c d) ≡ false → side A ≤ side (fork j c d)
        → P A c l → P A d r → P A (fork j c d) ((A, fork j c d) ∷ l ++ r)

    abbrev pub WhenFirstLeaf : Type 0
    WhenFirstLeaf = (i x : ℕ) (B : Tree) → far (leaf i x) B ≡ false → side B < side (leaf i x) → P (leaf i x) B ((leaf i x, B) ∷ [])

    abbrev pub WhenSecondLeaf : Type 0
    WhenSecondLeaf = (A : Tree) (j y : ℕ) → far A (leaf j y) ≡ false → side A ≤ side (leaf j y) → P A (leaf j y) ((A, leaf j y) ∷ [])

  module _ (P : Tree → Tree → List (Tree × Tree) → Type 0) (separated : WhenFar P) (first : WhenFirst P) (second : WhenSecond P)
      (first_leaf : WhenFirstLeaf P) (second-leaf : WhenSecondLeaf P) where
    followed : (A B : Tree) (l r : List (Tree × Tree)) → (far A B ≡ false → side B < side A → P A B ((A, B) ∷ l))
        → (far A B ≡ false → side A ≤ side B → P A B ((A, B) ∷ r)) → P A B ((A, B) ∷ follow far side A B l r)
    followed A B l r f g =
        let Q : List (Tree × Tree) → Type 0 = λ m. P A B ((A, B) ∷ m) in
        by_case Q (far A B) (separated A B)
        (λ e. by_case Q (ltb (side B) (side A)) (λ h. f e (ltb-true _ _ h)) (λ h. g e (ltb-false _ _ h)))

    pub compared-ind : (A B : Tree) → P A B (compared far side A B)
    unfolding compared
    compared-ind (leaf i x) (leaf j y) = followed (leaf i x) (leaf j y) _ _ (first_leaf i x (leaf j y)) (second-leaf (leaf i x) j y)
    compared-ind (leaf i x) (fork j c d) =
        followed (leaf i x) (fork j c d) _ _
        (first_leaf i x (fork j c d))
        (λ e h. second (leaf i x) j c d _ _ e h (compared-ind (leaf i x) c) (compared-ind (leaf i x) d))
    compared-ind (fork i a b) (leaf j y) =
        followed (fork i a b) (leaf j y) _ _
        (λ e h. first i a b (leaf j y) _ _ e h (compared-ind a (leaf j y)) (compared-ind b (leaf j y)))
        (second-leaf (fork i a b) j y)
    compared-ind (fork i a b) (fork j c d) =
        followed (fork i a b) (fork j c d) _ _
        (λ e h. first i a b (fork j c d) _ _ e h (compared-ind a (fork j c d)) (compared-ind b (fork j c d)))
        (λ e h. second (fork i a b) j c d _ _ e h (compared-ind (fork i a b) c) (compared-ind (fork i a b) d))

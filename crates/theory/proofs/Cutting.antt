-- The cutting of a set of holes, whatever the test that tells which of them go to the first part, as long as both parts of every set of two
-- or more have a hole. Then both are shorter than the set, so no cut is ever out of fuel, and document 01's rule holds without it.
-- Everything else about the tree follows by the induction `by-cutting`. Assumes nothing.
use mathlib.Core.Path.{◌≡◌, refl, sym, ap₂}
use mathlib.Core.Bool.{Bool}
use mathlib.Core.List.{List, [], ◌∷◌}
use Prim.Native.Nat.{ℕ, zero, suc, ◌+◌, ◌*◌, ◌≤◌, ◌<◌}
use native.Mathlib.Nat.{le_refl, add-zero}
use native.Mathlib.Omega.{arith}
use lib.ListN.{length}
use Rattle.paper.specs.Tree.{Tree, leaf, fork, number, cut, tree_from, first_part, second_part}
use Rattle.theory.specs.Trees.{leaves, Met, times, often}
use Rattle.theory.proofs.EachLaws.{length_parts}
use Rattle.theory.proofs.Often.{often_parts}

module _ (first : List ℕ → ℕ → Bool) where
  -- a set that is cut well: both parts have a hole, and are good in their turn
  pub record Halved (Good : List ℕ → Type 0) (s : List ℕ) : Type 0 where
    pub some_first : 1 ≤ length (first_part first s)
    pub some-second : 1 ≤ length (second_part first s)
    pub good-first : Good (first_part first s)
    pub good-second : Good (second_part first s)

  -- one hole is a leaf
  pub cut_one : (k i : ℕ) → tree_from first k (i ∷ []) ≡ leaf k i
  unfolding tree_from cut
  cut_one k i = refl

  -- the root of the tree is numbered k
  pub number_cut : (k : ℕ) (s : List ℕ) → number (tree_from first k s) ≡ k
  unfolding tree_from cut number
  number_cut k [] = refl
  number_cut k (i ∷ []) = refl
  number_cut k (i ∷ j ∷ s) = refl

  module _ (Good : List ℕ → Type 0) (halved : (s : List ℕ) → Good s → 2 ≤ length s → Halved Good s) where
    -- both parts are shorter
    pub shorter : (s : List ℕ) → Good s → 2 ≤ length s
        → (length (first_part first s) < length s) × (length (second_part first s) < length s)
    shorter s g h = let w = halved s g h in omega (arith, length_parts (first s) s)

    -- more fuel changes nothing
    pub fuel : (f g k : ℕ) (s : List ℕ) → Good s → length s ≤ f → length s ≤ g → cut first f k s ≡ cut first g k s
    unfolding cut
    fuel zero zero k s w hf hg = refl
    fuel zero (suc g) k [] w hf hg = refl
    fuel zero (suc g) k (i ∷ s) w hf hg = absurd (omega arith)
    fuel (suc f) zero k [] w hf hg = refl
    fuel (suc f) zero k (i ∷ s) w hf hg = absurd (omega arith)
    fuel (suc f) (suc g) k [] w hf hg = refl
    fuel (suc f) (suc g) k (i ∷ []) w hf hg = refl
    fuel (suc f) (suc g) k (i ∷ j ∷ s) w hf hg =
        let t = i ∷ j ∷ s in
        let l = shorter t w (omega arith) in
        let v = halved t w (omega arith) in
        ap₂ (fork k) (fuel f g _ _ v.good-first (omega arith) (omega arith)) (fuel f g _ _ v.good-second (omega arith) (omega arith))

    -- two or more holes: the node, then all of its first part, then all of its second
    pub cut-law : (k : ℕ) (s : List ℕ) → Good s → 2 ≤ length s
        → tree_from first k s
        ≡ fork k (tree_from first (k + 1) (first_part first s)) (tree_from first (k + 2 * length (first_part first s)) (second_part first s))
    unfolding cut tree_from
    cut-law k [] g h = absurd (omega arith)
    cut-law k (i ∷ []) g h = absurd (omega arith)
    cut-law k (i ∷ j ∷ s) g h =
        let t = i ∷ j ∷ s in
        let l = shorter t g h in
        let v = halved t g h in
        let f = suc (length s) in
        ap₂ (fork k) (fuel f _ _ _ v.good-first (omega arith) (le_refl _)) (fuel f _ _ _ v.good-second (omega arith) (le_refl _))

    -- what holds of a leaf, and of a node where it holds of its two parts, holds of the tree of every set
    pub by-cutting : (P : ℕ → List ℕ → Tree → Type 0) → ((k i : ℕ) → Good (i ∷ []) → P k (i ∷ []) (leaf k i))
        → ((k : ℕ) (s : List ℕ) (a b : Tree) → Good s → 2 ≤ length s → P (k + 1) (first_part first s) a
        → P (k + 2 * length (first_part first s)) (second_part first s) b → P k s (fork k a b))
        → (k : ℕ) (s : List ℕ) → Good s → 1 ≤ length s → P k s (tree_from first k s)
    by-cutting P one more k s g h = go (length s) k s g h (le_refl _)
      where
        go : (f k : ℕ) (s : List ℕ) → Good s → 1 ≤ length s → length s ≤ f → P k s (tree_from first k s)
        go zero k s g h hf = absurd (omega arith)
        go (suc f) k [] g h hf = absurd (omega arith)
        go (suc f) k (i ∷ []) g h hf = rw (cut_one k i) (one k i g)
        go (suc f) k (i ∷ j ∷ s) g h hf =
            let t = i ∷ j ∷ s in
            let l = shorter t g (omega arith) in
            let v = halved t g (omega arith) in
            rw (cut-law k t g (omega arith))
            (more k t _ _ g (omega arith)
            (go f _ _ v.good-first v.some_first (omega arith)) (go f _ _ v.good-second v.some-second (omega arith)))

    -- each hole is under the root as often as it stands in the set
    pub times_cut : (q k : ℕ) (s : List ℕ) → Good s → 1 ≤ length s → times q (tree_from first k s) ≡ often q s
    unfolding times often
    times_cut q =
        by-cutting (λ k s t. times q t ≡ often q s) (λ k i g. sym (add-zero _)) (λ k s a b g h p r. rw (p, r) (often_parts q (first s) s))

    -- the leaves are as many as the holes
    pub leaves-cut : (k : ℕ) (s : List ℕ) → Good s → 1 ≤ length s → leaves (tree_from first k s) ≡ length s
    unfolding leaves
    leaves-cut = by-cutting (λ k s t. leaves t ≡ length s) (λ k i g. refl) (λ k s a b g h p r. rw (p, r) (length_parts (first s) s))

    -- the nodes are numbered from k as they are met
    pub met-cut : (k : ℕ) (s : List ℕ) → Good s → 1 ≤ length s → Met k (tree_from first k s)
    unfolding leaves
    met-cut k s g h =
        (by-cutting (λ k s t. Met k t × (leaves t ≡ length s)) (λ k i g. (refl, refl))
        (λ k s a b g h p r. ((refl, p.0, rw p.1 r.0), rw (p.1, r.1) (length_parts (first s) s))) k s g h).0

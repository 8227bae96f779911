-- The pairs of a tree without a leaf ever being split, whatever the separation test and the measure of a side: every two different holes
-- are covered by exactly one pair, and a tree of n leaves has at most n (n - 1) / 2 pairs. Splitting a node leaves what a comparison covers
-- as it was, and a pair of nodes stands for at least one pair of leaves. Assumes nothing.
use mathlib.Core.Path.{◌≡◌, refl, sym, ap, ◌∙◌, fun_ext}
use mathlib.Core.Logic.{◌≢◌}
use mathlib.Core.Bool.{Bool, true, false, ◌&&◌, ◌||◌}
use mathlib.Core.List.{List, [], ◌∷◌, ◌++◌}
use Prim.Native.Nat.{ℕ, zero, suc, ◌+◌, ◌*◌, ◌-◌, ◌/◌, ◌≤◌, ◌<◌}
use native.Mathlib.Nat.{zero-add, add_assoc, zero-mul, mul-zero, mul-le-mul}
use native.Mathlib.Omega.{arith}
use lib.Dec.{eqb, ltb}
use lib.ListN.{length, length-append}
use borrow.Author.Tests.{eqb-true, lt-ltb, le-ltb, ltb-true, ltb-false}
use Rattle.paper.specs.Lists.{count, has}
use Rattle.paper.specs.Tree.{Tree, leaf, fork, under}
use Rattle.paper.proofs.ListLaws.{by_case, cases, some_append}
use Rattle.theory.specs.Trees.{leaves, one_if, times}
use Rattle.theory.proofs.Subtrees.{some_leaf}

module _ (far : Tree → Tree → Bool) (side : Tree → ℕ) where
  -- the pairs that a comparison of (A, B) lists, where two leaves count as separated and a leaf is never the longer side
  unfoldable pub listed : Tree → Tree → List (Tree × Tree)
  listed (leaf i x) (leaf j y) = (leaf i x, leaf j y) ∷ []
  listed (leaf i x) (fork j c d) =
      let A = leaf i x in
      let B = fork j c d in
      elim (far A B) [ true ↦ (A, B) ∷ [] | false ↦ listed (leaf i x) c ++ listed (leaf i x) d ]
  listed (fork i a b) (leaf j y) =
      let A = fork i a b in
      let B = leaf j y in
      elim (far A B) [ true ↦ (A, B) ∷ [] | false ↦ listed a (leaf j y) ++ listed b (leaf j y) ]
  listed (fork i a b) (fork j c d) =
      let A = fork i a b in
      let B = fork j c d in
      elim (far A B) [
        | true ↦ (A, B) ∷ []
        | false ↦
            elim (ltb (side B) (side A)) [
              | true ↦ listed a (fork j c d) ++ listed b (fork j c d)
              | false ↦ listed (fork i a b) c ++ listed (fork i a b) d
            ]
      ]

  -- for each node that is not a leaf, in number order, its first part against its second
  unfoldable pub listing : Tree → List (Tree × Tree)
  listing (leaf k x) = []
  listing (fork k a b) = listed a b ++ listing a ++ listing b

  -- one law of `listed` for each way that a comparison can go
  pub listed_far : (A B : Tree) → far A B ≡ true → listed A B ≡ (A, B) ∷ []
  unfolding listed
  listed_far (leaf i x) (leaf j y) e = refl
  listed_far (leaf i x) (fork j c d) e = rw (e, listed)
  listed_far (fork i a b) (leaf j y) e = rw (e, listed)
  listed_far (fork i a b) (fork j c d) e = rw (e, listed)

  pub listed_first : (i : ℕ) (a b B : Tree) → far (fork i a b) B ≡ false → side B < side (fork i a b)
      → listed (fork i a b) B ≡ listed a B ++ listed b B
  unfolding listed
  listed_first i a b (leaf j y) e h = rw (e, listed)
  listed_first i a b (fork j c d) e h = rw (e, lt-ltb (side (fork j c d)) (side (fork i a b)) h, listed)

  pub listed_second : (A : Tree) (j : ℕ) (c d : Tree) → far A (fork j c d) ≡ false → side A ≤ side (fork j c d)
      → listed A (fork j c d) ≡ listed A c ++ listed A d
  unfolding listed
  listed_second (leaf i x) j c d e h = rw (e, listed)
  listed_second (fork i a b) j c d e h = rw (e, le-ltb (side (fork j c d)) (side (fork i a b)) h, listed)

  -- one induction for all that is said of `listed`: a listed pair, a split of the first node, a split of the second
  module _ (P : Tree → Tree → List (Tree × Tree) → Type 0)
      (alone : (A B : Tree) → P A B ((A, B) ∷ []))
      (split_first : (i : ℕ) (a b B : Tree) (l r : List (Tree × Tree)) → P a B l → P b B r → P (fork i a b) B (l ++ r))
      (split_second : (A : Tree) (j : ℕ) (c d : Tree) (l r : List (Tree × Tree)) → P A c l → P A d r → P A (fork j c d) (l ++ r)) where
    listed-ind : (A B : Tree) → P A B (listed A B)
    unfolding listed
    listed-ind (leaf i x) (leaf j y) = alone (leaf i x) (leaf j y)
    listed-ind (leaf i x) (fork j c d) =
        let A = leaf i x in
        let B = fork j c d in
        by_case (P A B) (far A B) (λ e. alone A B) (λ e. split_second A j c d _ _ (listed-ind (leaf i x) c) (listed-ind (leaf i x) d))
    listed-ind (fork i a b) (leaf j y) =
        let A = fork i a b in
        let B = leaf j y in
        by_case (P A B) (far A B) (λ e. alone A B) (λ e. split_first i a b B _ _ (listed-ind a (leaf j y)) (listed-ind b (leaf j y)))
    listed-ind (fork i a b) (fork j c d) =
        let A = fork i a b in
        let B = fork j c d in
        by_case (P A B) (far A B) (λ e. alone A B)
        (λ e.
        by_case (P A B) (ltb (side B) (side A))
        (λ e. split_first i a b B _ _ (listed-ind a (fork j c d)) (listed-ind b (fork j c d)))
        (λ e. split_second A j c d _ _ (listed-ind (fork i a b) c) (listed-ind (fork i a b) d)))

-- the sum of a measure over a list
module _ {A : Type 0} (f : A → ℕ) where
  abbrev total : List A → ℕ
  total [] = 0
  total (x ∷ xs) = f x + total xs

  total_append : (xs ys : List A) → total (xs ++ ys) ≡ total xs + total ys
  total_append [] ys = sym (zero-add _)
  total_append (x ∷ xs) ys = rw (total_append xs ys) (sym (add_assoc (f x) (total xs) (total ys)))

  -- where it is 1, one element has the measure above 0
  none-counted : (xs : List A) → total xs ≡ 0 → count (λ x. ltb 0 (f x)) xs ≡ 0
  none-counted [] e = refl
  none-counted (x ∷ xs) e = rw (le-ltb 0 (f x) (omega arith), count) (none-counted xs (omega arith))

  one_counted : (xs : List A) → total xs ≡ 1 → count (λ x. ltb 0 (f x)) xs ≡ 1
  one_counted [] e = e
  one_counted (x ∷ xs) e =
      cases (ltb 0 (f x))
      (λ h. rw (h, count) (ap suc (none-counted xs (omega (arith, ltb-true 0 (f x) h)))))
      (λ h. rw (h, count) (one_counted xs (omega (arith, ltb-false 0 (f x) h))))

module _ (p q : ℕ) where
  -- how often a pair has p under one side and q under the other
  hits : Tree × Tree → ℕ
  hits r = times p r.0 * times q r.1 + times q r.0 * times p r.1

  one_hole : p ≢ q → (x : ℕ) → 0 ≡ one_if (eqb p x) * one_if (eqb q x)
  one_hole ne x =
      cases (eqb p x)
      (λ e. cases (eqb q x)
      (λ f. absurd (ne (eqb-true p x e ∙ sym (eqb-true q x f))))
      (λ f. rw (f, mul-zero)))
      (λ e. rw (e, zero-mul))

  module _ (far : Tree → Tree → Bool) (side : Tree → ℕ) where
    -- a comparison covers p and q as often as its two nodes do
    listed-hits : (A B : Tree) → total hits (listed far side A B) ≡ hits (A, B)
    unfolding hits times
    listed-hits =
        listed-ind far side (λ A B l. total hits l ≡ hits (A, B))
        (λ A B. omega arith)
        (λ i a b B l r v w. rw total_append (omega arith))
        (λ A j c d l r v w. rw total_append (omega arith))

    listing-hits : p ≢ q → (t : Tree) → total hits (listing far side t) ≡ times p t * times q t
    unfolding listing times hits
    listing-hits ne (leaf k x) = one_hole ne x
    listing-hits ne (fork k a b) = simp (total_append hits, listed-hits a b, listing-hits ne a, listing-hits ne b) (omega arith)

-- a sum is above 0 where one of the two is, and a product where both are
or_above : (m n : ℕ) → (ltb 0 m || ltb 0 n) ≡ ltb 0 (m + n)
or_above zero n = rw zero-add
or_above (suc m) n = rw (lt-ltb 0 (suc m) (omega arith), lt-ltb 0 (suc m + n) (omega arith))

and_above : (m n : ℕ) → (ltb 0 m && ltb 0 n) ≡ ltb 0 (m * n)
and_above zero n = rw zero-mul
and_above (suc m) zero = rw (mul-zero, lt-ltb 0 (suc m) (omega arith))
and_above (suc m) (suc n) = rw (lt-ltb 0 (suc m) (omega arith), lt-ltb 0 (suc n) (omega arith), lt-ltb 0 (suc m * suc n) (omega arith))

-- a hole is in the list of the holes under a node where it is under it at least once
pub has-under : (p : ℕ) (t : Tree) → has p (under t) ≡ ltb 0 (times p t)
unfolding under times
has-under p (leaf k x) = cases (eqb p x) (λ e. rw e) (λ e. rw e)
has-under p (fork k a b) = rw (some_append (eqb p), has-under p a, has-under p b) (or_above (times p a) (times p b))

-- "p under one side and q under the other"
unfoldable pub parts : ℕ → ℕ → Tree × Tree → Bool
parts p q r = has p (under r.0) && has q (under r.1) || has q (under r.0) && has p (under r.1)

parts_hits : (p q : ℕ) (r : Tree × Tree) → parts p q r ≡ ltb 0 (hits p q r)
unfolding parts hits
parts_hits p q r = simp (has-under, and_above, or_above)

-- the bound on the number of pairs, as document 01 writes it
pub at_most : (m n : ℕ) → 2 * m + n ≤ n * n → m ≤ n * (n - 1) / 2
at_most m zero h = omega arith
at_most m (suc k) h = let e : suc k - 1 ≡ k = omega arith in rw e (omega arith)

module _ (far : Tree → Tree → Bool) (side : Tree → ℕ) where
  -- "every two different holes p, q have exactly one pair with p under one side and q under the other"
  pub listing_covers : (p q : ℕ) → p ≢ q → (t : Tree) → times p t ≡ 1 → times q t ≡ 1 → count (parts p q) (listing far side t) ≡ 1
  listing_covers p q ne t e f =
      rw (fun_ext (parts_hits p q)) (one_counted (hits p q) (listing far side t) (rw (listing-hits p q far side ne t, e, f)))

  pub listed_bound : (A B : Tree) → length (listed far side A B) ≤ leaves A * leaves B
  unfolding leaves
  listed_bound =
      listed-ind far side (λ A B l. length l ≤ leaves A * leaves B)
      (λ A B. mul-le-mul (some_leaf A) (some_leaf B))
      (λ i a b B l r v w. rw length-append (omega arith))
      (λ A j c d l r v w. rw length-append (omega arith))

  -- a tree of n leaves lists at most n (n - 1) / 2 pairs
  pub listing_bound : (t : Tree) → 2 * length (listing far side t) + leaves t ≤ leaves t * leaves t
  unfolding listing leaves
  listing_bound (leaf k x) = omega arith
  listing_bound (fork k a b) = simp length-append (omega (arith, listed_bound a b, listing_bound a, listing_bound b))

  pub listing_at_most : (t : Tree) → length (listing far side t) ≤ leaves t * (leaves t - 1) / 2
  listing_at_most t = at_most (length (listing far side t)) (leaves t) (listing_bound t)

-- How often a number stands in a list: in joined lists as often as in both together, in the two parts of a list as often as in the list, and at
-- least once exactly where it is a member. By induction on the list. Assumes nothing.
use mathlib.Core.Path.{◌≡◌, refl, sym, ap, ◌∙◌}
use mathlib.Core.Logic.{◌↔◌, ⊎_elim}
use mathlib.Core.Bool.{Bool, true, false, not}
use mathlib.Core.List.Memᴰ
use mathlib.Core.List.{List, [], ◌∷◌, ◌++◌, Memᴰ}
use Prim.Native.Nat.{ℕ, zero, suc, ◌+◌, ◌≤◌, ◌<◌}
use native.Mathlib.Nat.{zero-add, add_assoc, le_of_eq}
use native.Mathlib.Omega.{arith}
use lib.Dec.{eqb, ltb}
use borrow.Author.Tests.{eqb-true, eqb-false, eq-eqb, ne_eqb, ltb-true, ltb-false}
use Rattle.paper.specs.Lists.{keep, from, below}
use Rattle.paper.proofs.ListLaws.{cases}
use Rattle.theory.specs.Trees.{Each, one_if, often}

module _ (q : ℕ) where
  pub often-append : (xs ys : List ℕ) → often q (xs ++ ys) ≡ often q xs + often q ys
  unfolding often
  often-append [] ys = sym (zero-add _)
  often-append (x ∷ xs) ys = rw (often-append xs ys) (sym (add_assoc (one_if (eqb q x)) (often q xs) (often q ys)))

  -- in the two parts together as often as in the list
  pub often_parts : (p : ℕ → Bool) (xs : List ℕ) → often q (keep p xs) + often q (keep (λ x. not (p x)) xs) ≡ often q xs
  unfolding often
  often_parts p [] = refl
  often_parts p (x ∷ xs) = part x (p x) (keep p xs) (keep (λ y. not (p y)) xs) ∙ ap (λ (n : ℕ). one_if (eqb q x) + n) (often_parts p xs)
    where
      part : (x : ℕ) (t : Bool) (l r : List ℕ)
          → often q (elim t [ true ↦ x ∷ l | false ↦ l ]) + often q (elim (not t) [ true ↦ x ∷ r | false ↦ r ])
          ≡ one_if (eqb q x) + (often q l + often q r)
      part x true l r = omega arith
      part x false l r = omega arith

  -- once among the n numbers from i on where it is one of them, and never where it is not
  pub never_from : (i n : ℕ) → (i ≤ q → q < i + n → ⊥) → often q (from i n) ≡ 0
  unfolding often
  never_from i zero h = refl
  never_from i (suc n) h =
      rw (ne_eqb q i (λ e. h (omega arith) (omega arith)), never_from (suc i) n (λ l m. h (omega arith) (omega arith)))

  pub once_from : (i n : ℕ) → i ≤ q → q < i + n → often q (from i n) ≡ 1
  unfolding often
  once_from i zero h l = absurd (omega arith)
  once_from i (suc n) h l =
      cases (eqb q i)
      (λ e. rw (e, never_from (suc i) n (λ m k. omega (arith, eqb-true q i e))))
      (λ e. rw (e, once_from (suc i) n (omega (arith, eqb-false q i e)) (omega arith)))

  pub often-below : (n : ℕ) → often q (below n) ≤ 1
  often-below n =
      cases (ltb q n)
      (λ e. le_of_eq (once_from 0 n (omega arith) (omega (arith, ltb-true q n e))))
      (λ e. omega (arith, never_from 0 n (λ h l. omega (arith, ltb-false q n e))))

  pub below-often : (n : ℕ) → 1 ≤ often q (below n) → q < n
  below-often n h =
      cases (ltb q n) (λ e. ltb-true q n e) (λ e. absurd (omega (arith, never_from 0 n (λ h l. omega (arith, ltb-false q n e)))))

  -- a number that does not stand in a list is none of its elements
  pub each_other : (xs : List ℕ) → often q xs ≡ 0 → Each (λ x. q ≡ x → ⊥) xs
  unfolding often
  each_other [] e = tt
  each_other (x ∷ xs) e =
      cases (eqb q x)
      (λ h. let z : 1 + often q xs ≡ 0 = rw h at e in absurd (omega arith))
      (λ h. (eqb-false q x h, each_other xs (rw (h, zero-add) at e)))

  often_member : (xs : List ℕ) → 1 ≤ often q xs → Memᴰ q xs
  unfolding often
  often_member [] h = absurd (omega arith)
  often_member (x ∷ xs) h =
      cases (eqb q x)
      (λ e. Memᴰ.head (eqb-true q x e))
      (λ e. Memᴰ.tail (often_member xs (omega (arith, rw e at h))))

  member_often : (xs : List ℕ) → Memᴰ q xs → 1 ≤ often q xs
  unfolding often
  member_often [] m = absurd (Memᴰ.not-nil m)
  member_often (x ∷ xs) m =
      ⊎_elim (λ e. rw (eq-eqb q x e) (omega arith)) (λ n. omega (arith, member_often xs n)) (Memᴰ.cases_cons m)

  pub often_is : (xs : List ℕ) → 1 ≤ often q xs ↔ Memᴰ q xs
  often_is xs = (often_member xs, member_often xs)

-- what holds of each number that stands in a list
pub each_often : (P : ℕ → Type 0) (xs : List ℕ) → ((q : ℕ) → 1 ≤ often q xs → P q) → Each P xs
unfolding often
each_often P [] f = tt
each_often P (x ∷ xs) f = (f x (rw (eq-eqb x x refl) (omega arith)), each_often P xs (λ q h. f q (omega arith)))

-- Lists: a property of each element, what is kept of a list, and how long parts and joined lists are.
-- All by induction on the list; a test that parts a list sends each element to one of two sides. Assumes nothing.
use mathlib.Core.Path.{◌≡◌, refl, sym, ap, ◌∙◌, subst}
use mathlib.Core.Bool.{Bool, true, false, not}
use mathlib.Core.List.{List, [], ◌∷◌, ◌++◌, map}
use Prim.Native.Nat.{ℕ, zero, suc, ◌+◌, ◌*◌, ◌≤◌, ◌<◌}
use native.Mathlib.Nat.{mul-zero, le_refl}
use native.Mathlib.Omega.{arith}
use lib.Dec.{eqb}
use lib.ListN.{length, get_or, length-append}
use borrow.Author.Tests.{eqb-true, eqb-false}
use Rattle.words.specs.Words.{Bytes}
use Rattle.paper.specs.Lists.{keep, joined, from, below}
use Rattle.paper.proofs.ListLaws.{by_case, cases}
use Rattle.theory.specs.Trees.{Each}

module _ {A : Type 0} where
  pub each : {P : A → Type 0} → ((x : A) → P x) → (xs : List A) → Each P xs
  each f [] = tt
  each f (x ∷ xs) = (f x, each f xs)

  pub each_map : {P Q : A → Type 0} → ((x : A) → P x → Q x) → (xs : List A) → Each P xs → Each Q xs
  each_map f [] w = tt
  each_map f (x ∷ xs) w = (f x w.0, each_map f xs w.1)

  pub each_map₂ : {P Q R : A → Type 0} → ((x : A) → P x → Q x → R x) → (xs : List A) → Each P xs → Each Q xs → Each R xs
  each_map₂ f [] w u = tt
  each_map₂ f (x ∷ xs) w u = (f x w.0 u.0, each_map₂ f xs w.1 u.1)

  pub each_append : (P : A → Type 0) (xs ys : List A) → Each P xs → Each P ys → Each P (xs ++ ys)
  each_append P [] ys w u = u
  each_append P (x ∷ xs) ys w u = (w.0, each_append P xs ys w.1 u)

  pub each_mapped : {B : Type 0} (P : A → Type 0) (f : B → A) (xs : List B) → Each (λ x. P (f x)) xs → Each P (map f xs)
  each_mapped P f [] w = tt
  each_mapped P f (x ∷ xs) w = (w.0, each_mapped P f xs w.1)

  pub each_at : (P : A → Type 0) (xs : List A) → Each P xs → (k : ℕ) (d : A) → k < length xs → P (get_or xs k d)
  each_at P [] w k d l = absurd (omega arith)
  each_at P (x ∷ xs) w zero d l = w.0
  each_at P (x ∷ xs) w (suc k) d l = each_at P xs w.1 k d (omega arith)

  -- what each element has that meets the test, each one that is kept has; where none is kept, each has what those have that fail
  pub each_keep : {P Q : A → Type 0} (p : A → Bool) → ((x : A) → P x → p x ≡ true → Q x) → (xs : List A) → Each P xs → Each Q (keep p xs)
  each_keep p f [] w = tt
  each_keep {Q} p f (x ∷ xs) w = by_case (Each Q) (p x) (λ e. (f x w.0 e, each_keep p f xs w.1)) (λ e. each_keep p f xs w.1)

  pub each_left : {P Q : A → Type 0} (p : A → Bool) → ((x : A) → P x → p x ≡ false → Q x)
      → (xs : List A) → length (keep p xs) ≡ 0 → Each P xs → Each Q xs
  each_left p f [] e w = tt
  each_left {Q} p f (x ∷ xs) e w =
      cases (p x)
      (λ h. let z : suc (length (keep p xs)) ≡ 0 = rw (h, keep) at e in absurd (omega arith))
      (λ h. (f x w.0 h, each_left p f xs (rw (h, keep) at e) w.1))

  -- the test holds at what is kept
  pub each_kept : (p : A → Bool) (xs : List A) → Each (λ x. p x ≡ true) (keep p xs)
  each_kept p [] = tt
  each_kept p (x ∷ xs) = by_case (Each (λ y. p y ≡ true)) (p x) (λ e. (e, each_kept p xs)) (λ e. each_kept p xs)

  -- keeping goes through a join
  pub keep_append : (p : A → Bool) (xs ys : List A) → keep p (xs ++ ys) ≡ keep p xs ++ keep p ys
  keep_append p [] ys = refl
  keep_append p (x ∷ xs) ys =
      cases (p x)
      (λ e. rw (e, keep) (rw (keep_append p xs ys)))
      (λ e. rw (e, keep) (keep_append p xs ys))

  -- an element that the test drops, before a join
  pub keep_split : (p : A → Bool) (x : A) (xs ys : List A) → p x ≡ false → keep p (x ∷ xs ++ ys) ≡ keep p xs ++ keep p ys
  keep_split p x xs ys e = rw (e, keep) (keep_append p xs ys)

  -- the two parts together are as long as the list
  pub length_parts : (p : A → Bool) (xs : List A) → length (keep p xs) + length (keep (λ x. not (p x)) xs) ≡ length xs
  length_parts p [] = refl
  length_parts p (x ∷ xs) = part (p x) (keep p xs) (keep (λ y. not (p y)) xs) ∙ ap suc (length_parts p xs)
    where
      part : (t : Bool) (l r : List A)
          → length {A = A} (elim t [ true ↦ x ∷ l | false ↦ l ]) + length {A = A} (elim (not t) [ true ↦ x ∷ r | false ↦ r ])
          ≡ suc (length l + length r)
      part true l r = omega arith
      part false l r = omega arith

  -- pieces of c elements each
  pub length-joined : {B : Type 0} (c : ℕ) (f : B → List A) (xs : List B) → Each (λ x. length (f x) ≡ c) xs → length (joined f xs) ≡ c * length xs
  length-joined c f [] h = sym (mul-zero c)
  length-joined c f (x ∷ xs) h = rw (length-append, h.0, length-joined c f xs h.1) (omega arith)

-- the n numbers from i on
pub length_from : (i n : ℕ) → length (from i n) ≡ n
length_from i zero = refl
length_from i (suc n) = ap suc (length_from (suc i) n)

pub each_from : (P : ℕ → Type 0) (i n : ℕ) → ((k : ℕ) → i ≤ k → k < i + n → P k) → Each P (from i n)
each_from P i zero f = tt
each_from P i (suc n) f = (f i (le_refl i) (omega arith), each_from P (suc i) n (λ k h l. f k (omega arith) (omega arith)))

pub from_each : (P : ℕ → Type 0) (i n : ℕ) → Each P (from i n) → (k : ℕ) → i ≤ k → k < i + n → P k
from_each P i zero w k h l = absurd (omega arith)
from_each P i (suc n) w k h l =
    cases (eqb i k) (λ e. subst P (eqb-true i k e) w.0) (λ e. from_each P (suc i) n w.1 k (omega (arith, eqb-false i k e)) (omega arith))

pub each_below : (P : ℕ → Type 0) (n : ℕ) → ((k : ℕ) → k < n → P k) → Each P (below n)
each_below P n f = each_from P 0 n (λ k h l. f k (omega arith))

-- bytes put end to end are bytes
pub bytes-append : (s t : List ℕ) → Bytes s → Bytes t → Bytes (s ++ t)
bytes-append [] t a b k = b k
bytes-append (x ∷ s) t a b zero = a 0
bytes-append (x ∷ s) t a b (suc k) = bytes-append s t (λ i. a (suc i)) b k

pub bytes-joined : {B : Type 0} (put : B → List ℕ) → ((x : B) → Bytes (put x)) → (xs : List B) → Bytes (joined put xs)
bytes-joined put f [] = omega arith
bytes-joined put f (x ∷ xs) = bytes-append (put x) (joined put xs) (f x) (bytes-joined put f xs)

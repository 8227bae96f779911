-- The laws of `specs/Lists.antt`: what its tests say. Assumes nothing.
use mathlib.Core.Path.{◌≡◌, refl, sym, ap, ◌∙◌}
use mathlib.Core.Logic.{◌↔◌, ◌⊎◌, inl, inr, ⊎_elim}
use mathlib.Core.Bool.{Bool, true, false, ◌&&◌, ◌||◌, not, true≢false}
use mathlib.Core.List.Memᴰ
use mathlib.Core.List.{List, [], ◌∷◌, ◌++◌, map, Memᴰ}
use Prim.Native.Nat.{ℕ, zero, suc, ◌+◌, ◌≤◌, ◌<◌}
use native.Mathlib.Nat.{add-zero, zero-add}
use native.Mathlib.Omega.{arith}
use lib.Dec.{eqb, leb, ltb}
use lib.ListN.{length, get_or}
use borrow.Author.Tests.{eqb-true, eqb-false, eq-eqb, leb-true, leb-false, ltb-true}
use Rattle.paper.specs.Lists.{count, some_of, first_passing, joined, same, has, from}

-- a property of what a test picks, by the two cases, each with what the test then said
pub by_case : {A : Type 0} (P : A → Type 0) (t : Bool) {x y : A} → (t ≡ true → P x) → (t ≡ false → P y) → P (elim t [ true ↦ x | false ↦ y ])
by_case P true f g = f refl
by_case P false f g = g refl

-- the same for what one test picks at two places
pub by_case₂ : {A B : Type 0} (R : A → B → Type 0) (t : Bool) {x y : A} {u v : B} → (t ≡ true → R x u) → (t ≡ false → R y v)
    → R (elim t [ true ↦ x | false ↦ y ]) (elim t [ true ↦ u | false ↦ v ])
by_case₂ R true f g = f refl
by_case₂ R false f g = g refl

pub cases {ℓ} : {X : Type ℓ} (t : Bool) → (t ≡ true → X) → (t ≡ false → X) → X
cases true f g = f refl
cases false f g = g refl

-- what holds and fails at once proves anything
pub both : {X : Type 0} {t : Bool} → t ≡ true → t ≡ false → X
both e f = absurd (true≢false (sym e ∙ f))

-- a test that is not true is false
pub not_so : {t : Bool} → (t ≡ true → ⊥) → t ≡ false
not_so {t = true} f = absurd (f refl)
not_so {t = false} f = refl

pub and_is : (a b : Bool) → (a && b) ≡ true ↔ (a ≡ true) × (b ≡ true)
and_is true b = (λ e. (refl, e), λ w. w.1)
and_is false b = (λ e. both e refl, λ w. w.0)

pub or_is : (a b : Bool) → (a || b) ≡ true ↔ (a ≡ true) ⊎ (b ≡ true)
or_is true b = (λ e. inl refl, λ w. refl)
or_is false b = (λ e. inr e, λ w. ⊎_elim (λ e. both e refl) (λ e. e) w)

pub not_is : (a : Bool) → not a ≡ true ↔ (a ≡ true → ⊥)
not_is true = (λ e f. both e refl, λ f. absurd (f refl))
not_is false = (λ e f. both f refl, λ f. refl)

pub same_is : (p q : List ℕ) → same p q ≡ true ↔ p ≡ q
same_is p q = (to p q, λ e. rw e (itself q))
  where
    to : (p q : List ℕ) → same p q ≡ true → p ≡ q
    to [] [] e = refl
    to [] (y ∷ q) e = both e refl
    to (x ∷ p) [] e = both e refl
    to (x ∷ p) (y ∷ q) e =
        let w = (and_is (eqb x y) (same p q)).0 e in
        rw (eqb-true x y w.0, to p q w.1)

    itself : (q : List ℕ) → same q q ≡ true
    itself [] = refl
    itself (y ∷ q) = rw (eq-eqb y y refl) (itself q)

pub has_is : (x : ℕ) (l : List ℕ) → has x l ≡ true ↔ Memᴰ x l
has_is x l = (to l, back l)
  where
    to : (l : List ℕ) → has x l ≡ true → Memᴰ x l
    to [] e = both e refl
    to (y ∷ l) e = ⊎_elim (λ h. Memᴰ.head (eqb-true x y h)) (λ h. Memᴰ.tail (to l h)) ((or_is (eqb x y) (has x l)).0 e)

    back : (l : List ℕ) → Memᴰ x l → has x l ≡ true
    back [] m = elim m [ ]
    back (y ∷ l) (Memᴰ.head e) = (or_is (eqb x y) (has x l)).1 (inl (eq-eqb x y e))
    back (y ∷ l) (Memᴰ.tail m) = (or_is (eqb x y) (has x l)).1 (inr (back l m))

-- a test over the n numbers from i on: where it holds somewhere, the first such number is the least, and where it does not, it fails at each
pub record FirstFrom (t : ℕ → Bool) (i n x : ℕ) : Type 0 where
  pub start : i ≤ x
  pub within : x < i + n
  pub holds : t x ≡ true
  pub none_before : (j : ℕ) → i ≤ j → j < x → t j ≡ false

module _ (t : ℕ → Bool) where
  pub first-from : (i n d : ℕ) → some_of t (from i n) ≡ true → FirstFrom t i n (first_passing t (from i n) d)
  first-from i zero d e = both e refl
  first-from i (suc n) d e =
      by_case (FirstFrom t i (suc n)) (t i)
      (λ h. record { start = omega arith; within = omega arith; holds = h; none_before = λ j a b. absurd (omega arith) })
      (λ h.
      let w = first-from (suc i) n d (⊎_elim (λ g. both g h) (λ g. g) ((or_is (t i) (some_of t (from (suc i) n))).0 e)) in
      record {
        start = omega (arith, w.start);
        within = omega (arith, w.within);
        holds = w.holds;
        none_before = λ j a b. at-or-above h w.none_before j a b;
      })
    where
      at-or-above : {x : ℕ} → t i ≡ false → ((j : ℕ) → suc i ≤ j → j < x → t j ≡ false) → (j : ℕ) → i ≤ j → j < x → t j ≡ false
      at-or-above h f j a b = cases (eqb i j) (λ e. rw (← eqb-true i j e) h) (λ e. f j (omega (arith, eqb-false i j e)) b)

  pub none_from : (i n : ℕ) → some_of t (from i n) ≡ false → (j : ℕ) → i ≤ j → j < i + n → t j ≡ false
  none_from i zero e j a b = absurd (omega arith)
  none_from i (suc n) e j a b =
      cases (t i)
      (λ h. both ((or_is (t i) (some_of t (from (suc i) n))).1 (inl h)) e)
      (λ h. cases (eqb i j)
      (λ f. rw (← eqb-true i j f) h)
      (λ f. none_from (suc i) n (not_so (λ s. both ((or_is (t i) (some_of t (from (suc i) n))).1 (inr s)) e)) j
      (omega (arith, eqb-false i j f)) (omega arith)))

  pub some_from : (i n j : ℕ) → i ≤ j → j < i + n → t j ≡ true → some_of t (from i n) ≡ true
  some_from i n j a b h = cases (some_of t (from i n)) (λ e. e) (λ e. both h (none_from i n e j a b))

-- somewhere is at a member
pub some_is : {A : Type 0} (p : A → Bool) (l : List A) → some_of p l ≡ true ↔ (x : A) × Memᴰ x l × (p x ≡ true)
some_is {A} p l = (to l, λ w. back l w.0 w.1 w.2)
  where
    to : (l : List A) → some_of p l ≡ true → (x : A) × Memᴰ x l × (p x ≡ true)
    to [] e = both e refl
    to (y ∷ l) e =
        cases (p y)
        (λ h. (y, Memᴰ.head refl, h))
        (λ h. let w = to l (⊎_elim (λ g. both g h) (λ g. g) ((or_is (p y) (some_of p l)).0 e)) in (w.0, Memᴰ.tail w.1, w.2))

    back : (l : List A) (x : A) → Memᴰ x l → p x ≡ true → some_of p l ≡ true
    back [] x m h = elim m [ ]
    back (y ∷ l) x (Memᴰ.head e) h = (or_is (p y) (some_of p l)).1 (inl (rw (← e) h))
    back (y ∷ l) x (Memᴰ.tail m) h = (or_is (p y) (some_of p l)).1 (inr (back l x m h))

-- a list that is not empty has a member at which a measure is least
pub least_member : {A : Type 0} (f : A → ℕ) (x : A) (l : List A) → (y : A) × Memᴰ y (x ∷ l) × ((z : A) → Memᴰ z (x ∷ l) → f y ≤ f z)
least_member {A} f x [] = (x, Memᴰ.head refl, λ z m. ⊎_elim (λ e. rw e (omega arith)) (λ n. absurd (Memᴰ.not-nil n)) (Memᴰ.cases_cons m))
least_member {A} f x (w ∷ l) =
    let r = least_member f w l in
    cases (leb (f x) (f r.0))
    (λ h. (
      x,
      Memᴰ.head refl,
      λ z m. ⊎_elim (λ e. rw e (omega arith)) (λ n. omega (arith, leb-true (f x) (f r.0) h, r.2 z n)) (Memᴰ.cases_cons m),
    ))
    (λ h. (
      r.0,
      Memᴰ.tail r.1,
      λ z m. ⊎_elim (λ e. rw e (omega (arith, leb-false (f x) (f r.0) h))) (λ n. r.2 z n) (Memᴰ.cases_cons m),
    ))

pub some_least : {A : Type 0} (f : A → ℕ) (l : List A) → some_of (λ q. true) l ≡ true → some_of (λ p. not (some_of (λ q. ltb (f q) (f p)) l)) l ≡ true
some_least f [] e = both e refl
some_least f (x ∷ l) e =
    let w = least_member f x l in
    (some_is (λ p. not (some_of (λ q. ltb (f q) (f p)) (x ∷ l))) (x ∷ l)).1 (
      w.0,
      w.1,
      (not_is (some_of (λ q. ltb (f q) (f w.0)) (x ∷ l))).1
          (λ s.
          let u = (some_is (λ q. ltb (f q) (f w.0)) (x ∷ l)).0 s in
          omega (arith, w.2 u.0 u.1, ltb-true (f u.0) (f w.0) u.2)),
    )

-- a test over lists that are joined, and over a list that is mapped
module _ {A : Type 0} (p : A → Bool) where
  pub some_append : (xs ys : List A) → some_of p (xs ++ ys) ≡ (some_of p xs || some_of p ys)
  some_append [] ys = refl
  some_append (x ∷ xs) ys = rw (some_append xs ys) (or-again (p x))
    where
      or-again : (a : Bool) → (a || (some_of p xs || some_of p ys)) ≡ (a || some_of p xs || some_of p ys)
      or-again true = refl
      or-again false = refl

  pub some_joined : {B : Type 0} (f : B → List A) (l : List B) → some_of p (joined f l) ≡ some_of (λ i. some_of p (f i)) l
  some_joined f [] = refl
  some_joined f (x ∷ l) = rw (some_append (f x) (joined f l), some_joined f l)

  pub some_map : {B : Type 0} (g : B → A) (l : List B) → some_of p (map g l) ≡ some_of (λ x. p (g x)) l
  some_map g [] = refl
  some_map g (x ∷ l) = rw (some_map g l)

  pub first-map : {B : Type 0} (g : B → A) (l : List B) (d : A) (e : B) → some_of (λ x. p (g x)) l ≡ true → first_passing p (map g l) d ≡ g (first_passing (λ x. p (g x)) l e)
  first-map g [] d e s = both s refl
  first-map g (x ∷ l) d e s =
      cases (p (g x))
      (λ h. rw (h, first_passing))
      (λ h. rw (h, first_passing) (first-map g l d e (⊎_elim (λ q. both q h) (λ q. q) ((or_is (p (g x)) (some_of (λ y. p (g y)) l)).0 s))))

  pub first-append : (xs ys : List A) (d : A) → first_passing p (xs ++ ys) d ≡ elim (some_of p xs) [ true ↦ first_passing p xs d | false ↦ first_passing p ys d ]
  first-append [] ys d = refl
  first-append (x ∷ xs) ys d = pick (p x) (some_of p xs) (first_passing p xs d) (first_passing p ys d) (first_passing p (xs ++ ys) d) (first-append xs ys d)
    where
      pick : (t s : Bool) (a b c : A) → c ≡ elim s [ true ↦ a | false ↦ b ]
          → ◌≡◌ {A = A} (elim t [ true ↦ x | false ↦ c ]) (elim (t || s) [ true ↦ elim t [ true ↦ x | false ↦ a ] | false ↦ b ])
      pick true s a b c e = refl
      pick false s a b c e = e

  pub first-joined : {B : Type 0} (f : B → List A) (l : List B) (d : A) (e : B) → some_of (λ i. some_of p (f i)) l ≡ true
      → first_passing p (joined f l) d ≡ first_passing p (f (first_passing (λ i. some_of p (f i)) l e)) d
  first-joined f [] d e s = both s refl
  first-joined f (x ∷ l) d e s =
      first-append (f x) (joined f l) d
      ∙ cases (some_of p (f x))
      (λ h. rw (h, first_passing))
      (λ h. rw (h, first_passing) (first-joined f l d e (⊎_elim (λ q. both q h) (λ q. q) ((or_is (some_of p (f x)) (some_of (λ i. some_of p (f i)) l)).0 s))))

-- exactly one element
pub record One {A : Type 0} (p : A → Bool) (d : A) (l : List A) : Type 0 where
  pub which : ℕ
  pub within : which < length l
  pub holds : p (get_or l which d) ≡ true
  pub only : (k : ℕ) → k < length l → p (get_or l k d) ≡ true → k ≡ which

module _ {A : Type 0} (p : A → Bool) (d : A) where
  none-counted : (l : List A) → count p l ≡ 0 → (k : ℕ) → k < length l → p (get_or l k d) ≡ true → ⊥
  none-counted [] e k b h = omega arith
  none-counted (x ∷ l) e zero b h = let z : suc (count p l) ≡ 0 = rw (h, count) at e in omega arith
  none-counted (x ∷ l) e (suc k) b h =
      cases (p x)
      (λ f. let z : suc (count p l) ≡ 0 = rw (f, count) at e in omega arith)
      (λ f. none-counted l (rw (f, count) at e) k (omega arith) h)

  count_none : (l : List A) → ((k : ℕ) → k < length l → p (get_or l k d) ≡ true → ⊥) → count p l ≡ 0
  count_none [] f = refl
  count_none (x ∷ l) f = rw (not_so (f 0 (omega arith)), count) (count_none l (λ k b h. f (suc k) (omega arith) h))

  -- the first element alone, or one further down
  here : (x : A) (l : List A) → p x ≡ true → count p l ≡ 0 → One p d (x ∷ l)
  here x l f e = record { which = 0; within = omega arith; holds = f; only = alone }
    where
      alone : (k : ℕ) → k < length (x ∷ l) → p (get_or (x ∷ l) k d) ≡ true → k ≡ 0
      alone zero b h = refl
      alone (suc k) b h = absurd (none-counted l e k (omega arith) h)

  further : (x : A) (l : List A) → p x ≡ false → One p d l → One p d (x ∷ l)
  further x l f o = record { which = suc o.which; within = omega (arith, o.within); holds = o.holds; only = there }
    where
      there : (k : ℕ) → k < length (x ∷ l) → p (get_or (x ∷ l) k d) ≡ true → k ≡ suc o.which
      there zero b h = both h f
      there (suc k) b h = ap suc (o.only k (omega arith) h)

  one_counted : (l : List A) → count p l ≡ 1 → One p d l
  one_counted [] e = absurd (omega arith)
  one_counted (x ∷ l) e =
      cases (p x)
      (λ f. let z : suc (count p l) ≡ 1 = rw (f, count) at e in here x l f (omega arith))
      (λ f. further x l f (one_counted l (rw (f, count) at e)))

  count_one : (l : List A) (w : ℕ) → w < length l → p (get_or l w d) ≡ true → ((k : ℕ) → k < length l → p (get_or l k d) ≡ true → k ≡ w) → count p l ≡ 1
  count_one [] w b h only = absurd (omega arith)
  count_one (x ∷ l) zero b h only = rw (h, count) (ap suc (count_none l (λ k c g. let e = only (suc k) (omega arith) g in omega arith)))
  count_one (x ∷ l) (suc w) b h only =
      rw (not_so {t = p x} (λ g. let e = only 0 (omega arith) g in omega arith), count)
      (count_one l w (omega arith) h (λ k c g. let e = only (suc k) (omega arith) g in omega arith))

  pub one_is : (l : List A) → count p l ≡ 1 ↔ One p d l
  one_is l = (one_counted l, λ o. count_one l o.which o.within o.holds o.only)

-- the numbers of two stretches are those of the first, then those of the second
pub from-append : (i p q : ℕ) → from i (p + q) ≡ from i p ++ from (i + p) q
from-append i zero q = rw (zero-add, add-zero)
from-append i (suc p) q =
    let e : suc p + q ≡ suc (p + q) = omega arith in
    let f : i + suc p ≡ suc i + p = omega arith in
    rw (e, f, from-append (suc i) p q)

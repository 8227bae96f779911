-- Finite sums: the values of a function at the numbers below m, added. A table's sum by rows is its sum by columns; values of at most 1
-- whose sum reaches their number are each 1; a test that holds nowhere lower than where it holds, holds at most once. Assumes nothing.
use mathlib.Core.Path.{◌≡◌, refl, sym}
use mathlib.Core.Logic.{◌≢◌}
use mathlib.Core.Bool.{Bool, true, false}
use Prim.Native.Nat.{ℕ, zero, suc, ◌+◌, ◌*◌, ◌≤◌, ◌<◌}
use native.Mathlib.Omega.{arith}
use lib.Dec.{leb, eqb}
use borrow.Author.Tests.{eqb-true, eqb-false, leb-true, leb-false}
use Rattle.paper.proofs.ListLaws.{cases, both}
use Rattle.theory.specs.Trees.{one_if}

abbrev pub sum : (ℕ → ℕ) → ℕ → ℕ
sum f zero = 0
sum f (suc m) = sum f m + f m

-- sums of two functions
module _ (f g : ℕ → ℕ) where
  pub sum_same : (m : ℕ) → ((i : ℕ) → i < m → f i ≡ g i) → sum f m ≡ sum g m
  sum_same zero h = refl
  sum_same (suc m) h = omega (arith, sum_same m (λ i l. h i (omega arith)), h m (omega arith))

  pub sum_plus : (m : ℕ) → sum (λ i. f i + g i) m ≡ sum f m + sum g m
  sum_plus zero = omega arith
  sum_plus (suc m) = omega (arith, sum_plus m)

module _ (f : ℕ → ℕ) where
  pub sum-times : (x m : ℕ) → sum (λ i. f i * x) m ≡ sum f m * x
  sum-times x zero = omega arith
  sum-times x (suc m) = omega (arith, sum-times x m)

  -- all values are the same; all but none, one or two are 0
  pub sum_each : (x m : ℕ) → ((i : ℕ) → i < m → f i ≡ x) → sum f m ≡ x * m
  sum_each x zero h = omega arith
  sum_each x (suc m) h = omega (arith, sum_each x m (λ i l. h i (omega arith)), h m (omega arith))

  pub sum-none : (m : ℕ) → ((i : ℕ) → i < m → f i ≡ 0) → sum f m ≡ 0
  sum-none m h = omega (arith, sum_each 0 m h)

  pub sum_one : (m a : ℕ) → a < m → ((i : ℕ) → i < m → i ≢ a → f i ≡ 0) → sum f m ≡ f a
  sum_one zero a l h = absurd (omega arith)
  sum_one (suc m) a l h =
      cases (eqb a m)
      (λ e. rw (eqb-true a m e) (omega (arith, sum-none m (λ i b. h i (omega arith) (omega (arith, eqb-true a m e))))))
      (λ e.
      let n : a ≢ m = eqb-false a m e in
      omega (arith, sum_one m a (omega arith) (λ i b. h i (omega arith)), h m (omega arith) (omega arith)))

  pub sum_two : (m a b : ℕ) → a < m → b < m → a ≢ b → ((i : ℕ) → i < m → i ≢ a → i ≢ b → f i ≡ 0) → sum f m ≡ f a + f b
  sum_two zero a b l k d h = absurd (omega arith)
  sum_two (suc m) a b l k d h =
      cases (eqb a m)
      (λ e.
      let q = eqb-true a m e in
      rw q (omega (arith, sum_one m b (omega arith) (λ i c. h i (omega arith) (omega arith)))))
      (λ e.
      let n : a ≢ m = eqb-false a m e in
      cases (eqb b m)
      (λ e.
      let q = eqb-true b m e in
      rw q (omega (arith, sum_one m a (omega arith) (λ i c n. h i (omega arith) n (omega arith)))))
      (λ e.
      let o : b ≢ m = eqb-false b m e in
      omega (arith, sum_two m a b (omega arith) (omega arith) d (λ i c. h i (omega arith)), h m (omega arith) (omega arith) (omega arith))))

  -- a sum above 0 has a value above 0
  pub sum_some : (m : ℕ) → 1 ≤ sum f m → (i : ℕ) × (i < m) × (1 ≤ f i)
  sum_some zero h = absurd (omega arith)
  sum_some (suc m) h =
      cases (leb 1 (f m))
      (λ e. (m, omega arith, leb-true 1 (f m) e))
      (λ e. let w = sum_some m (omega (arith, leb-false 1 (f m) e)) in (w.0, omega (arith, w.1), w.2))

  -- values of at most 1: the sum is at most their number, and where it reaches it each is 1
  pub sum_most : (m : ℕ) → ((i : ℕ) → i < m → f i ≤ 1) → sum f m ≤ m
  sum_most zero h = omega arith
  sum_most (suc m) h = omega (arith, sum_most m (λ i l. h i (omega arith)), h m (omega arith))

  pub sum_full : (m : ℕ) → ((i : ℕ) → i < m → f i ≤ 1) → m ≤ sum f m → (i : ℕ) → i < m → f i ≡ 1
  sum_full zero h s i l = absurd (omega arith)
  sum_full (suc m) h s i l =
      let b : (j : ℕ) → j < m → f j ≤ 1 = λ j c. h j (omega arith) in
      cases (eqb i m)
      (λ e. rw (eqb-true i m e) (omega (arith, sum_most m b, h m (omega arith))))
      (λ e.
      let n : i ≢ m = eqb-false i m e in
      sum_full m b (omega (arith, h m (omega arith))) i (omega arith))

-- a table by rows and by columns
pub swap : (f : ℕ → ℕ → ℕ) (m w : ℕ) → sum (λ i. sum (f i) w) m ≡ sum (λ j. sum (λ i. f i j) m) w
swap f zero w = sym (sum-none (λ j. 0) w (λ j l. refl))
swap f (suc m) w = rw (swap f m w) (sym (sum_plus (λ j. sum (λ i. f i j) m) (f m) w))

-- a test that holds at no number lower than one at which it holds: it holds at most once, and where it holds somewhere, just there
pub record OnlyOne (t : ℕ → Bool) (m : ℕ) : Type 0 where
  pub which : ℕ
  pub within : which < m
  pub holds : t which ≡ true
  pub only : (j : ℕ) → j < m → t j ≡ true → j ≡ which

pub at_most_one : (t : ℕ → Bool) (m : ℕ) → ((i j : ℕ) → j < i → i < m → t i ≡ true → t j ≡ false) → sum (λ i. one_if (t i)) m ≤ 1
at_most_one t zero new = omega arith
at_most_one t (suc m) new =
    cases (t m)
    (λ e. rw e (omega (arith, sum-none (λ i. one_if (t i)) m (λ i l. rw (new m i l (omega arith) e)))))
    (λ e. rw e (omega (arith, at_most_one t m (λ i j l b. new i j l (omega arith)))))

pub only_one : (t : ℕ → Bool) (m : ℕ) → ((i j : ℕ) → j < i → i < m → t i ≡ true → t j ≡ false) → 1 ≤ sum (λ i. one_if (t i)) m → OnlyOne t m
only_one t m new s =
    let w = sum_some (λ i. one_if (t i)) m s in
    let h : t w.0 ≡ true = one-if-is (t w.0) w.2 in
    record {
      which = w.0;
      within = w.1;
      holds = h;
      only = λ j l g.
          let p : ¬ (j < w.0) = λ c. both g (new w.0 j c w.1 h) in
          let q : ¬ (w.0 < j) = λ c. both h (new j w.0 c l g) in
          omega arith;
    }
  where
    one-if-is : (t : Bool) → 1 ≤ one_if t → t ≡ true
    one-if-is true h = refl
    one-if-is false h = absurd (omega arith)

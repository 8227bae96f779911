-- Where a number stands in a list: a member has a place, what stands at a place is a member, and a number that stands in a list at most once has
-- one place. A list in which each number below n stands once, and no other, has n elements: so all holes are under the root. Assumes nothing.
use mathlib.Core.Path.{◌≡◌, refl, sym, ap}
use mathlib.Core.Logic.{inl, inr}
use mathlib.Core.List.{List, [], ◌∷◌, Memᴰ}
use Prim.Native.Nat.{ℕ, zero, suc, ◌≤◌, ◌<◌}
use native.Mathlib.Omega.{arith}
use lib.ListN.{length, get_or}
use borrow.Author.Tests.{eq-eqb}
use Rattle.paper.specs.Record.{View}
use Rattle.paper.specs.Rules.{hole_count, node_count, NodeRule, under_node}
use Rattle.theory.specs.Trees.{Each, often}
use Rattle.theory.proofs.Sums.{sum_each}
use Rattle.theory.proofs.Often.{often_is, each_often}
use Rattle.theory.proofs.Grown.{under-below}
use Rattle.theory.proofs.Foreign.{under_once}
use Rattle.tree.proofs.UnderLength.{all_often}

pub place_of : {h : ℕ} (l : List ℕ) → Memᴰ h l → (i : ℕ) × (i < length l) × (get_or l i 0 ≡ h)
place_of [] m = absurd (mathlib.Core.List.Memᴰ.not-nil m)
place_of {h} (x ∷ l) m =
    elim (mathlib.Core.List.Memᴰ.cases_cons m) [
      | inl e ↦ (0, omega arith, sym e)
      | inr r ↦ let w : (i : ℕ) × (i < length l) × (get_or l i 0 ≡ h) = place_of l r in (suc w.0, omega (arith, w.1), w.2)
    ]

pub at_place : (l : List ℕ) (i : ℕ) → i < length l → Memᴰ (get_or l i 0) l
at_place [] i b = absurd (omega arith)
at_place (x ∷ l) zero b = mathlib.Core.List.Memᴰ.head refl
at_place (x ∷ l) (suc i) b = mathlib.Core.List.Memᴰ.tail (at_place l i (omega arith))

-- not at the head and further down too
head_alone : {h : ℕ} (x : ℕ) (l : List ℕ) → often h (x ∷ l) ≤ 1 → (j : ℕ) → j < length l → x ≡ h → get_or l j 0 ≡ h → ⊥
unfolding often
head_alone {h} x l o j b p q =
    let m : Memᴰ h l = rw q at (at_place l j b) in
    omega (arith, (often_is h l).1 m, rw (eq-eqb h x (sym p)) at o)

pub one_place : {h : ℕ} (l : List ℕ) → often h l ≤ 1 → (i j : ℕ) → i < length l → j < length l
    → get_or l i 0 ≡ h → get_or l j 0 ≡ h → i ≡ j
unfolding often
one_place [] o i j a b p q = absurd (omega arith)
one_place (x ∷ l) o zero zero a b p q = refl
one_place (x ∷ l) o zero (suc j) a b p q = absurd (head_alone x l o j (omega arith) p q)
one_place (x ∷ l) o (suc i) zero a b p q = absurd (head_alone x l o i (omega arith) q p)
one_place (x ∷ l) o (suc i) (suc j) a b p q = ap suc (one_place l (omega arith) i j (omega arith) (omega arith) p q)

pub length_once : (n : ℕ) (l : List ℕ) → Each (λ x. x < n) l → ((h : ℕ) → h < n → often h l ≡ 1) → length l ≡ n
length_once n l w f = omega (arith, all_often n l w, sum_each (λ h. often h l) 1 n f)

pub all_under : (t : View) → ((k : ℕ) → k < node_count t → NodeRule t k) → 0 < node_count t → length (under_node t 0) ≡ hole_count t
all_under t rules b =
    let l = under_node t 0 in
    length_once (hole_count t) l
    (each_often (λ x. x < hole_count t) l (λ h o. under-below t rules 0 b h ((often_is h l).0 o)))
    (under_once t rules)

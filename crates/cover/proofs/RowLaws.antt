-- The laws of `specs/Rows.antt`: sums of wide cells, one more in a wide cell, and spans counted one after the other. By induction on the ranks.
-- Assumes nothing.
use Rattle.std.proofs.Common.{◌≡◌, Bool, true, false, List, ℕ, zero, suc, ◌+◌, ◌*◌, ◌<◌, ◌≤◌, add_assoc, add-one, arith, ltb, inl, inr}
use Rattle.std.proofs.lemmas.Bool.{cases_lt, cases_eq}
use Rattle.std.proofs.lemmas.Bool.Decides.{nat_tests}
use Rattle.slate.specs.Slate.{cell, cells, Kept, CellsHeld, CellsSet}
use Rattle.slate.proofs.Frames.{kept_none, kept_wider, kept_both, kept_cells}
use Rattle.theory.specs.Trees.{one_if}
use Rattle.theory.proofs.Sums.{sum, sum_same, sum-none}
use Rattle.cover.specs.Rows.{upto, Counting, OneMore, Tallied}

-- ---- the wide cells of a column, added

-- one more, and no more than all
pub upto_more : (w : List ℕ) (c r : ℕ) → upto w c (r + 1) ≡ upto w c r + cells 2 w c r
unfolding upto
upto_more w c r = rw add-one

pub upto_most : (w : List ℕ) (c r n : ℕ) → r ≤ n → upto w c r ≤ upto w c n
unfolding upto
upto_most w c r zero l = let e : r ≡ 0 = omega arith in rw e (omega arith)
upto_most w c r (suc n) l =
    elim (cases_lt n r) [ inl h ↦ let e : r ≡ suc n = omega arith in rw e (omega arith) | inr h ↦ omega (arith, upto_most w c r n h) ]

-- the cells are as they were, or 0
pub upto_kept : {old new : List ℕ} {lo hi : ℕ} → Kept old new lo hi → (c n : ℕ) → (lo < 2_048 * c + 2 * n → 2_048 * c < hi → ⊥)
    → upto new c n ≡ upto old c n
unfolding upto
upto_kept {old} {new} p c n h =
    sum_same (cells 2 new c) (cells 2 old c) n (λ k l. kept_cells p 2 c k (λ x y. h (omega arith) (omega arith)))

pub upto_zero : (w : List ℕ) (c n : ℕ) → ((k : ℕ) → k < 2 * n → cell w c k ≡ 0) → (r : ℕ) → r ≤ n → upto w c r ≡ 0
unfolding upto
upto_zero w c n h r l =
    sum-none (cells 2 w c) r
    (λ k b.
    let e : 2_048 * c + (2 * k + 1) ≡ 2_048 * c + 2 * k + 1 = omega arith in
    omega (arith, h (2 * k) (omega arith), rw e at (h (2 * k + 1) (omega arith))))

pub counting_kept : {old new : List ℕ} {lo hi c n : ℕ} → Kept old new lo hi → Counting old c n → (lo < 2_048 * c + 2 * n → 2_048 * c < hi → ⊥)
    → Counting new c n
counting_kept {c} {n} k p h = record { grid = omega arith; column = p.column; few = p.few; most = omega (arith, upto_kept k c n h) }

-- ---- one more in a wide cell

pub one_if_most : (t : Bool) → one_if t ≤ 1
one_if_most true = omega arith
one_if_most false = omega arith

sum_more : (f g : ℕ → ℕ) (a : ℕ) → g a ≡ f a + 1 → ((i : ℕ) → (i ≡ a → ⊥) → g i ≡ f i) → (m : ℕ)
    → sum g m ≡ sum f m + one_if (ltb a m)
sum_more f g a h o zero = grind (arith, nat_tests)
sum_more f g a h o (suc m) =
    let s = sum_more f g a h o m in
    elim (cases_eq m a) [ inl e ↦ let k : g m ≡ f m + 1 = rw e h in grind (arith, nat_tests) | inr e ↦ let k = o m e in grind (arith, nat_tests) ]

pub one_more : {w w' : List ℕ} {c n k v : ℕ} → CellsHeld 2 w c k v → CellsSet 2 w w' c k (v + 1) → k < n → OneMore c n k w w'
unfolding upto
one_more {w} {w'} {c} {n} {k} {v} h s l =
    record {
      kept = kept_wider s.kept (omega arith) (omega arith);
      sums = λ r b.
          sum_more (cells 2 w c) (cells 2 w' c) k (omega (arith, h.is, s.here))
          (λ i d. kept_cells s.kept 2 c i (omega arith))
          r;
    }

-- ---- spans counted: none, as many at each rank, and more of them

pub tallied_none : {w : List ℕ} {n k : ℕ} → Tallied n k (λ r. 0) w w
tallied_none = record { kept = kept_none; starts = omega arith; ends = omega arith; ranks = λ r x l o. record { is = omega arith } }

pub tallied_as : {a b : List ℕ} {n k : ℕ} {f g : ℕ → ℕ} → ((r : ℕ) → f r ≡ g r) → Tallied n k f a b → Tallied n k g a b
tallied_as h d =
    record { kept = d.kept; starts = d.starts; ends = d.ends; ranks = λ r x l o. rw (← h r) (d.ranks r x l o) }

pub tallied_more : {a b c : List ℕ} {n j k : ℕ} {f g : ℕ → ℕ} → Tallied n j f a b → Tallied n k g b c
    → Tallied n (j + k) (λ r. f r + g r) a c
tallied_more {f} {g} p q =
    record {
      kept = kept_both p.kept q.kept;
      starts = omega arith;
      ends = omega arith;
      ranks = λ r x l o. rw (← add_assoc) (q.ranks r (x + f r) l (p.ranks r x l o));
    }

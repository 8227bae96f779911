-- Two lists of holes, end to end, have as many holes as both, the lesser of the two lowest, and the box around both boxes: in which order boxes
-- are put together makes no difference to the box around them all. Assumes nothing.
use mathlib.Core.Path.{◌≡◌, refl, sym}
use mathlib.Core.List.{List, [], ◌∷◌, ◌++◌}
use Prim.Native.Nat.{ℕ, ◌+◌, ◌≤◌, min, max}
use native.Mathlib.Omega.{arith}
use lib.ListN.{length, length-append}
use Rattle.paper.specs.Field.{Hole, Field, hole}
use Rattle.paper.specs.Tree.{Box, spot, around, box_of, box_at}
use Rattle.paper.specs.Questions.{lowest}

-- how many the holes of a list are, the lowest of them, and their box
pub record Totals (H : Field) (s : List ℕ) (m l : ℕ) (B : Box) : Type 0 where
  pub holes : m ≡ length s
  pub lowest : l ≡ lowest s
  pub box : B ≡ box_at H s

lowest-append : (xs ys : List ℕ) → 1 ≤ length xs → 1 ≤ length ys → lowest (xs ++ ys) ≡ min (lowest xs) (lowest ys)
unfolding lowest
lowest-append [] ys a b = absurd (omega arith)
lowest-append (x ∷ xs) [] a b = absurd (omega arith)
lowest-append (x ∷ []) (y ∷ ys) a b = refl
lowest-append (x ∷ z ∷ xs) (y ∷ ys) a b = omega (arith, lowest-append (z ∷ xs) (y ∷ ys) (omega arith) (omega arith))

around-none : (A : Box) → around A [] ≡ A
unfolding around
around-none [] = refl
around-none (s ∷ A) = refl

around_again : (A B C : Box) → around (around A B) C ≡ around A (around B C)
unfolding around
around_again [] B C = refl
around_again (s ∷ A) [] C = refl
around_again (s ∷ A) (t ∷ B) [] = refl
around_again (s ∷ A) (t ∷ B) (r ∷ C) =
    let e : min (min s.low t.low) r.low ≡ min s.low (min t.low r.low) = omega arith in
    let f : max (max s.high t.high) r.high ≡ max s.high (max t.high r.high) = omega arith in
    rw (e, f, around_again A B C)

pub box_append : (H : Field) (xs ys : List ℕ) → box_at H (xs ++ ys) ≡ around (box_at H xs) (box_at H ys)
unfolding box_at box_of around
box_append H [] ys = refl
box_append H (x ∷ xs) ys = rw (box_append H xs ys) (sym (around_again (spot (hole H x)) (box_at H xs) (box_at H ys)))

-- one hole
pub totals_one : {H : Field} {h : ℕ} {p : Hole} → hole H h ≡ p → Totals H (h ∷ []) 1 h (spot p)
unfolding box_at box_of lowest
totals_one {p} e = record { holes = refl; lowest = refl; box = rw e (sym (around-none (spot p))) }

-- two lists that are not empty
pub totals_both : {H : Field} {xs ys : List ℕ} {m n l o : ℕ} {A B : Box} → Totals H xs m l A → Totals H ys n o B → 1 ≤ length xs → 1 ≤ length ys
    → Totals H (xs ++ ys) (m + n) (min l o) (around A B)
totals_both {H} {xs} {ys} p q a b =
    record {
      holes = rw (p.holes, q.holes) (sym (length-append xs ys));
      lowest = rw (p.lowest, q.lowest) (sym (lowest-append xs ys a b));
      box = rw (p.box, q.box) (sym (box_append H xs ys));
    }

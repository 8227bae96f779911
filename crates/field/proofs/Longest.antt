-- The first axis that has the longest side, with one side more at the end: it is the new one where that is longer than all before it, and else it
-- stays. Assumes nothing.
use mathlib.Core.Path.{◌≡◌, refl, sym, ap, ◌∙◌}
use mathlib.Core.List.{List, [], ◌∷◌, ◌++◌}
use Prim.Native.Nat.{ℕ, suc, ◌+◌, ◌<◌, ◌≤◌, max}
use native.Mathlib.Omega.{arith}
use lib.Dec.{leb}
use lib.ListN.{length}
use borrow.Author.Tests.{le-leb, lt-leb, leb-true, leb-false}
use Rattle.paper.specs.Tree.{Side, Box, long, longest, axis}
use Rattle.paper.proofs.ListLaws.{cases}
use Rattle.theory.proofs.Halving.{long-axis}
use Rattle.field.specs.Boxes.{side_on, box_on}
use Rattle.field.proofs.Boxes.{length_box, box_side}
use Rattle.field.proofs.Axis.{box_none, box_more}

-- ---- one side more

longest_end : (A : Box) (s : Side) → longest (A ++ (s ∷ [])) ≡ max (longest A) (long s)
unfolding longest
longest_end [] s = omega arith
longest_end (a ∷ A) s = rw (longest_end A s) (omega arith)

axis_here : (a : Side) (A : Box) → longest A ≤ long a → axis (a ∷ A) ≡ 0
unfolding axis
axis_here a A l = rw (le-leb _ _ l, axis)

axis_later : (a : Side) (A : Box) → long a < longest A → axis (a ∷ A) ≡ suc (axis A)
unfolding axis
axis_later a A l = rw (lt-leb _ _ l, axis)

axis_longer : (A : Box) (s : Side) → longest A < long s → axis (A ++ (s ∷ [])) ≡ length A
unfolding longest
axis_longer [] s l = axis_here s [] (omega arith)
axis_longer (a ∷ A) s l =
    axis_later a (A ++ (s ∷ [])) (rw (longest_end A s) (omega arith)) ∙ ap suc (axis_longer A s (omega arith))

axis_stays : (A : Box) (s : Side) → long s ≤ longest A → axis (A ++ (s ∷ [])) ≡ axis A
unfolding longest axis
axis_stays [] s l = axis_here s [] (omega arith)
axis_stays (a ∷ A) s l =
    cases (leb (longest A) (long a))
    (λ e.
    let h : longest A ≤ long a = leb-true _ _ e in
    axis_here a (A ++ (s ∷ [])) (rw (longest_end A s) (omega arith)) ∙ sym (axis_here a A h))
    (λ e.
    let h : long a < longest A = leb-false _ _ e in
    axis_later a (A ++ (s ∷ [])) (rw (longest_end A s) (omega arith)) ∙ ap suc (axis_stays A s (omega arith)) ∙ sym (axis_later a A h))

-- ---- on the slate

module _ (w : List ℕ) (k : ℕ) where
  pub best_start : 0 ≡ axis (box_on w 1 k)
  unfolding longest
  best_start = sym (rw (box_more w 0 k, box_none w k) (axis_here (side_on w k 0) [] (omega arith)))

  -- best is the first axis with the longest side of the first x
  module _ (x best u v : ℕ) (b : best < x) (e : best ≡ axis (box_on w x k)) (p : u ≡ long (side_on w k best)) (q : v ≡ long (side_on w k x)) where
    best-long : u ≡ longest (box_on w x k)
    best-long = p ∙ sym (ap (λ (s : Side). long s) (box_side w x k best b)) ∙ rw e (long-axis (box_on w x k))

    pub best-new : u < v → x ≡ axis (box_on w (x + 1) k)
    best-new l =
        sym (rw (box_more w x k) (axis_longer (box_on w x k) (side_on w k x) (rw (← best-long, ← q) l) ∙ length_box w x k))

    pub best-stays : v ≤ u → best ≡ axis (box_on w (x + 1) k)
    best-stays l = e ∙ sym (rw (box_more w x k) (axis_stays (box_on w x k) (side_on w k x) (rw (← best-long, ← q) l)))

-- the longest side itself
pub longest-none : (w : List ℕ) (k : ℕ) → 0 ≡ longest (box_on w 0 k)
unfolding longest box_on
longest-none w k = refl

pub longest_more : (w : List ℕ) (k x most e r : ℕ) → most ≡ longest (box_on w x k) → e ≡ long (side_on w k x) → r ≡ max most e
    → r ≡ longest (box_on w (x + 1) k)
longest_more w k x most e r m f g = rw (box_more, longest_end, g, m, f)

-- How deep a built tree is, for any number of coordinates. Keep for each axis an exponent such that the side is below that power of two.
-- A cut halves a side of at least 1, so its exponent goes down by one, and no other has to go up: the tree is no deeper than the sum of
-- the exponents. Sides of coordinates below 2^w start with w each. Assumes nothing.
use mathlib.Core.Path.{◌≡◌}
use mathlib.Core.Bool.{Bool, not}
use mathlib.Core.List.{List, [], ◌∷◌}
use Prim.Native.Nat.{ℕ, zero, suc, ◌+◌, ◌*◌, ◌-◌, ◌/◌, ◌^◌, ◌≤◌, ◌<◌}
use native.Mathlib.Nat.{pow-suc, one-le-pow}
use native.Mathlib.Omega.{arith}
use lib.Dec.{eqb}
use lib.ListN.{length, get_or, set, replicate}
use lib.Seq.{get_or-set_same, get_or-set_other}
use borrow.Author.Tests.{eqb-true, eqb-false}
use Rattle.paper.specs.Field.{Field, Hole, hole}
use Rattle.paper.specs.Lists.{keep, below}
use Rattle.paper.specs.Tree.{long, first, tree_from, tree_of}
use Rattle.paper.proofs.ListLaws.{cases}
use Rattle.theory.specs.Trees.{Each, depth}
use Rattle.theory.proofs.EachLaws.{each_map₂, length_from, each_below}
use Rattle.theory.proofs.Cutting.{by-cutting}
use Rattle.theory.proofs.Halving.{side_at, cut-axis, cut-side, Sized, Good, no_longer, side-kept, first-half, second-half, some-length, halved}
use Rattle.theory.proofs.Fields.{Distinct, each_hole, good_all}

-- the sum of the exponents
abbrev total : List ℕ → ℕ
total [] = 0
total (e ∷ es) = e + total es

-- one exponent less on axis x
abbrev lower : List ℕ → ℕ → List ℕ
lower es x = set es x (get_or es x 0 - 1)

total_lower : (es : List ℕ) (x : ℕ) → 1 ≤ get_or es x 0 → suc (total (lower es x)) ≡ total es
total_lower [] x h = absurd (omega arith)
total_lower (e ∷ es) zero h = omega arith
total_lower (e ∷ es) (suc x) h = omega (arith, total_lower es x h)

inside : (es : List ℕ) (x : ℕ) → 1 ≤ get_or es x 0 → x < length es
inside [] x h = absurd (omega arith)
inside (e ∷ es) zero h = omega arith
inside (e ∷ es) (suc x) h = omega (arith, inside es x h)

total_replicate : (d w : ℕ) → total (replicate d w) ≡ w * d
total_replicate zero w = omega arith
total_replicate (suc d) w = omega (arith, total_replicate d w)

-- what is below a power of two and at least 1, and its half
some_exponent : (e l : ℕ) → l < 2 ^ e → 1 ≤ l → 1 ≤ e
some_exponent zero l h o = absurd (omega arith)
some_exponent (suc e) l h o = omega arith

half_exponent : (e l : ℕ) → l < 2 ^ e → 1 ≤ l → l / 2 < 2 ^ (e - 1)
half_exponent zero l h o = absurd (omega arith)
half_exponent (suc e) l h o = let f : suc e - 1 ≡ e = omega arith in rw f (omega (arith, pow-suc 2 e))

-- coordinates below 2^w, and none past the last
small : (w : ℕ) (h : Hole) → Each (λ c. c < 2 ^ w) h → (x : ℕ) → get_or h x 0 < 2 ^ get_or (replicate (length h) w) x 0
small w [] b x = omega arith
small w (c ∷ h) b zero = b.0
small w (c ∷ h) b (suc x) = small w h b.1 x

module _ (H : Field) where
  -- each side of a set is below 2 to its exponent
  abbrev Below : List ℕ → List ℕ → Type 0
  Below es s = (x : ℕ) → long (side_at H s x) < 2 ^ get_or es x 0

  module _ (d : ℕ) where
    -- a cut takes one from the exponent of its axis
    below-part : (p : ℕ → Bool) (es s : List ℕ) → Sized H d s → Below es s → 1 ≤ long (cut-side H s)
        → long (side_at H (keep p s) (cut-axis H s)) ≤ long (cut-side H s) / 2 → Below (lower es (cut-axis H s)) (keep p s)
    below-part p es s w b o half x =
        let c = cut-axis H s in
        cases (eqb x c)
        (λ e. rw (eqb-true x c e, get_or-set_same es c (get_or es c 0 - 1) 0 (inside es c (some_exponent _ _ (b c) o)))
        (omega (arith, half_exponent (get_or es c 0) (long (cut-side H s)) (b c) o)))
        (λ e. rw (get_or-set_other es c x (get_or es c 0 - 1) 0 (eqb-false x c e)) (omega (arith, side-kept H d x p s w, b x)))

    deep : (k : ℕ) (s : List ℕ) → Good H d s → 1 ≤ length s → (es : List ℕ) → Below es s → depth (tree_from (first H) k s) ≤ total es
    unfolding depth
    deep =
        by-cutting (first H) (Good H d) (halved H d) (λ k s t. (es : List ℕ) → Below es s → depth t ≤ total es)
        (λ k i g es b. omega arith)
        (λ k s a b g h p q es l.
        let c = cut-axis H s in
        let o = some-length H d s g h in
        omega (
          arith,
          total_lower es c (some_exponent _ _ (l c) o),
          p (lower es c) (below-part (first H s) es s g.0 l o (first-half H d s g.0)),
          q (lower es c) (below-part (λ i. not (first H s i)) es s g.0 l o (second-half H d s g.0)),
        ))

    below_all : (w : ℕ) (s : List ℕ) → Sized H d s → Each (λ i. Each (λ c. c < 2 ^ w) (hole H i)) s → Below (replicate d w) s
    below_all w s z b x =
        let e : ℕ = get_or (replicate d w) x 0 in
        let p : 1 ≤ 2 ^ e = one-le-pow e 2 (omega arith) in
        let low : (i : ℕ) → length (hole H i) ≡ d → Each (λ c. c < 2 ^ w) (hole H i) → get_or (hole H i) x 0 < 2 ^ e
        = λ i l h. rw (← l) (small w (hole H i) h x) in
        omega (arith, no_longer H d x (record { low = 0; high = 2 ^ e - 1 }) s z (each_map₂ (λ i l h. omega (arith, low i l h)) s z b))

    -- no leaf is more than w splits per coordinate below the root, where the coordinates are below 2^w
    pub depth-cut : (w k : ℕ) (s : List ℕ) → Good H d s → 1 ≤ length s → Each (λ i. Each (λ c. c < 2 ^ w) (hole H i)) s
        → depth (tree_from (first H) k s) ≤ w * d
    depth-cut w k s g h b = omega (arith, total_replicate d w, deep k s g h (replicate d w) (below_all w s g.0 b))

-- coordinates have two bytes: no leaf is more than 16 splits per coordinate below the root
pub depth-tree : (H : Field) (d : ℕ) → Each (λ h. length h ≡ d) H → Distinct H → Each (λ h. Each (λ c. c < 65_536) h) H → 1 ≤ length H
    → depth (tree_of H) ≤ 16 * d
unfolding tree_of
depth-tree H d sized distinct small some =
    depth-cut H d 16 0 (below (length H)) (good_all H d sized distinct) (rw length_from some)
    (each_hole (λ h. Each (λ c. c < 65_536) h) H small (below (length H)) (each_below (λ i. i < length H) (length H) (λ k h. h)))

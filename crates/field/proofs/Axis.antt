-- The axes in order. A hole, a box, the box around two, G and a squared distance are each made along the list of axes: by what stands on each of
-- them, or by one axis more at the end. Assumes nothing.
use mathlib.Core.Path.{◌≡◌, refl, ◌∙◌}
use mathlib.Core.List.{List, [], ◌∷◌, ◌++◌, map, map-append}
use Prim.Native.Nat.{ℕ, ◌+◌, ◌*◌, ◌<◌, ◌≤◌}
use native.Mathlib.Nat.{zero-add}
use native.Mathlib.Omega.{arith}
use Rattle.std.proofs.lemmas.List.Sums.{sum_by_push, get_or-le-sum_by}
use Rattle.std.proofs.lemmas.List.Recursion.{is_sum_by}
use Rattle.std.proofs.lemmas.Simd.{map-map}
use Rattle.words.specs.Words.{be}
use Rattle.slate.specs.Columns.{LOW, HIGH}
use Rattle.paper.specs.Lists.{below}
use Rattle.paper.specs.Field.{list_at, hole_at, square, distance²}
use Rattle.paper.specs.Tree.{Side, point, spot, around, long}
use Rattle.paper.specs.Separation.{G}
use Rattle.paper.proofs.ListLaws.{from-append}
use Rattle.theory.proofs.EachLaws.{length_from}
use Rattle.field.specs.Boxes.{side_on, box_on, Boxed}
use Rattle.field.specs.Sides.{side_around, gap_on, squares, Sided, LeftFrom, Squared}
use Rattle.field.proofs.Boxes.{below_at, box_same}

-- ---- one axis more

below_one : (n : ℕ) → below (n + 1) ≡ below n ++ (n ∷ [])
below_one n = rw zero-add at (from-append 0 n 1)

map_end : {A : Type 0} (f : ℕ → A) (n : ℕ) → map f (below (n + 1)) ≡ map f (below n) ++ (f n ∷ [])
map_end f n = rw (below_one, map-append)

pub hole-none : (s : List ℕ) (o : ℕ) → hole_at 0 s o ≡ []
unfolding hole_at list_at
hole-none s o = refl

pub hole_more : (x : ℕ) (s : List ℕ) (o : ℕ) → hole_at (x + 1) s o ≡ hole_at x s o ++ (be 2 s (o + 2 * x) ∷ [])
unfolding hole_at list_at
hole_more x s o = map_end (λ y. be 2 s (o + 2 * y)) x

pub box_none : (w : List ℕ) (k : ℕ) → box_on w 0 k ≡ []
unfolding box_on
box_none w k = refl

pub box_more : (w : List ℕ) (x k : ℕ) → box_on w (x + 1) k ≡ box_on w x k ++ (side_on w k x ∷ [])
unfolding box_on
box_more w x k = map_end (side_on w k) x

pub squares_more : (f : ℕ → ℕ) (x sum r q : ℕ) → sum ≡ squares f x → r ≡ f x → Squared r q → sum + q ≡ squares f (x + 1)
unfolding squares
squares_more f x sum r q h e s = rw (below_one, sum_by_push (λ y. square (f y)) (below x) x, h, s.is, e)

-- ---- by what stands on each axis

pub spot_of : (d : ℕ) (s : List ℕ) (o : ℕ) → spot (hole_at d s o) ≡ map (λ x. point (be 2 s (o + 2 * x))) (below d)
unfolding hole_at list_at
spot_of d s o = map-map point (λ x. be 2 s (o + 2 * x)) (below d)

pub around_of : (p q : ℕ → Side) (xs : List ℕ) → around (map p xs) (map q xs) ≡ map (λ x. side_around (p x) (q x)) xs
unfolding around
around_of p q [] = refl
around_of p q (x ∷ xs) = rw (around_of p q xs)

pub G_of : (w : List ℕ) (d k : ℕ) → G (box_on w d k) ≡ squares (λ x. long (side_on w k x)) d
unfolding G box_on squares
G_of w d k = is_sum_by (λ xs. G (map (side_on w k) xs)) _ refl (λ _ _. refl) (below d)

-- the squared distance of what f takes of each side of two nodes' boxes
module _ (f : Side → ℕ) (w : List ℕ) (j k : ℕ) where
  pub distance_of : (d : ℕ) → distance² (map f (box_on w d j)) (map f (box_on w d k)) ≡ squares (gap_on f w j k) d
  unfolding distance² box_on squares
  distance_of d = is_sum_by (λ xs. distance² (map f (map (side_on w j) xs)) (map f (map (side_on w k) xs))) _ refl (λ _ _. refl) (below d)

  -- one axis alone says no more than all
  pub one_axis : (x d r q : ℕ) → r ≡ gap_on f w j k x → Squared r q → x < d → q ≤ distance² (map f (box_on w d j)) (map f (box_on w d k))
  unfolding squares
  one_axis x d r q e s l =
      rw (distance_of, s.is, e)
      (rw (below_at x d l) at (get_or-le-sum_by (λ y. square (gap_on f w j k y)) (below d) x 0 (rw length_from l)))

-- ---- a box set on no axis, and on one axis more

pub left_start : (w : List ℕ) (k : ℕ) → LeftFrom w w k 0
left_start w k = record { len = refl; sides = λ y l. refl; rest = λ i h. refl }

sided_left : {old new : List ℕ} {x k : ℕ} {s : Side} → Sided old new x k s → x < 3 → (y : ℕ) → (y ≡ x → ⊥) → side_on new k y ≡ side_on old k y
sided_left {x} {k} q l y m =
    rw (
      q.rest (2_048 * (LOW + 2 * y) + k) (λ e. m (omega arith)) (omega arith),
      q.rest (2_048 * (HIGH + 2 * y) + k) (omega arith) (λ e. m (omega arith)),
    )

module _ {old mid new : List ℕ} {x k : ℕ} {s : Side} (p : LeftFrom old mid k x) (q : Sided mid new x k s) (l : x < 3) where
  pub left_more : LeftFrom old new k (x + 1)
  left_more =
      record {
        len = q.len ∙ p.len;
        sides = λ y m. sided_left q l y (omega arith) ∙ p.sides y (omega arith);
        rest = λ i h. q.rest i (h (LOW + 2 * x) (omega arith) (omega arith)) (h (HIGH + 2 * x) (omega arith) (omega arith)) ∙ p.rest i h;
      }

  pub sides_more : (f : ℕ → Side) → box_on mid x k ≡ map f (below x) → s ≡ f x → box_on new (x + 1) k ≡ map f (below (x + 1))
  sides_more f e g = rw (box_more new x k, box_same new mid x k k (λ y m. sided_left q l y (omega arith)), e, q.is, g, map_end f x)

pub box_done : {old new : List ℕ} {x d k : ℕ} (f : ℕ → Side) → LeftFrom old new k x → box_on new x k ≡ map f (below x) → x ≤ d → d ≤ x
    → Boxed old new d k (map f (below d))
box_done {x} {d} f p e l m = let g : x ≡ d = omega arith in record { len = p.len; box = rw g at e; rest = p.rest }

-- Separated sets have no hole in common, and lemma 1.1 of document 003 holds of them in whole numbers, at any ratio a/b and for any number of
-- coordinates. All comes of one bound, `across`: on each axis two places stray from p and q by no more than their boxes' sides, and a
-- square of a sum is at most the weighed sum of the squares. Assumes nothing.
use mathlib.Core.Path.{◌≡◌, refl, ◌∙◌}
use mathlib.Core.Logic.{◌≢◌}
use mathlib.Core.List.Memᴰ
use mathlib.Core.List.{List, [], ◌∷◌, Memᴰ}
use Prim.Native.Nat.{ℕ, zero, suc, ◌+◌, ◌*◌, ◌-◌, ◌≤◌, ◌<◌, max}
use native.Mathlib.Nat.{mul-le-mul, mul-le-mul_left, mul-le-mul_right, mul-sub, max_comm, le-max_left, le-max_right, le_of_mul-le-mul_right}
use native.Mathlib.Decide.{dec_le}
use native.Mathlib.Omega.{arith}
use Rattle.paper.specs.Field.{Hole, Field, hole, gap, square, distance²}
use Rattle.paper.specs.Tree.{Side, Box, long, Tree, leaf, fork, under, box_at}
use Rattle.paper.specs.Separation.{G, C, D, Separated}
use Rattle.theory.proofs.Boxes.{In, Sized, in_box}

-- the squared distance of a place and itself is 0
distance_itself : (p : Hole) → distance² p p ≡ 0
unfolding distance²
distance_itself [] = refl
distance_itself (x ∷ p) = let e : gap x x ≡ 0 = omega arith in rw (e, distance_itself p)

-- the gap, the squared distance and separation are the same both ways
pub gap_swapped : (x y : ℕ) → gap x y ≡ gap y x
gap_swapped x y = omega arith

pub distance_swapped : (p q : Hole) → distance² p q ≡ distance² q p
unfolding distance²
distance_swapped [] [] = refl
distance_swapped [] (y ∷ q) = refl
distance_swapped (x ∷ p) [] = refl
distance_swapped (x ∷ p) (y ∷ q) = rw (gap_swapped x y, distance_swapped p q)

D_swapped : (A B : Box) → D A B ≡ D B A
unfolding D
D_swapped A B = distance_swapped (C A) (C B)

pub separated_swapped : (a b : ℕ) (A B : Box) → Separated a b A B → Separated a b B A
separated_swapped a b A B far = record { apart = λ e. far.apart (D_swapped A B ∙ e); wide = rw (max_comm (G B) (G A), D_swapped B A) far.wide }

-- 2xy ≤ x² + y²
double : (x y : ℕ) → 2 * (x * y) ≤ x * x + y * y
double x y = go (dec_le x y)
  where
    further : (x k : ℕ) → 2 * (x * (x + k)) ≤ x * x + (x + k) * (x + k)
    further x k = omega arith

    ordered : (x y : ℕ) → x ≤ y → 2 * (x * y) ≤ x * x + y * y
    ordered x y h = let e : x + (y - x) ≡ y = omega arith in rw e at (further x (y - x))

    go : Dec (x ≤ y) → 2 * (x * y) ≤ x * x + y * y
    go (yes h) = ordered x y h
    go (no h) = omega (arith, ordered y x (omega arith))

-- xy(X + Y)² ≤ x(x + y)X² + y(x + y)Y², since (xX - yY)² is not negative
weighed : (x y X Y : ℕ) → x * y * square (X + Y) ≤ x * (x + y) * square X + y * (x + y) * square Y
weighed x y X Y = omega (arith, double (x * X) (y * Y))

-- the same of a w within c·v + s + t
weighed_near : (c x y w v s t : ℕ) → w ≤ c * v + (s + t)
    → x * y * square w ≤ c * c * (x * (x + y)) * square v + 2 * (y * (x + y)) * square s + 2 * (y * (x + y)) * square t
weighed_near c x y w v s t h =
    omega (
      arith,
      mul-le-mul_left (x * y) (mul-le-mul h h),
      weighed x y (c * v) (s + t),
      mul-le-mul_left (y * (x + y)) (double s t),
    )

-- on one axis: u within s of c·x and v within t of c·y
axis_near : (c u v x y s t : ℕ) → u ≤ c * x + s → c * x ≤ u + s → v ≤ c * y + t → c * y ≤ v + t → gap u v ≤ c * gap x y + (s + t)
axis_near c u v x y s t h i j k = rw scaled (stray (c * x) (c * y) h i j k)
  where
    scaled : c * gap x y ≡ gap (c * x) (c * y)
    scaled = omega (arith, mul-sub c x y, mul-sub c y x)

    stray : (X Y : ℕ) → u ≤ X + s → X ≤ u + s → v ≤ Y + t → Y ≤ v + t → gap u v ≤ gap X Y + (s + t)
    stray X Y h i j k = omega arith

-- one axis more, at any weights
one_more : (K X Y w v s t D d G H : ℕ) → K * w ≤ X * v + Y * s + Y * t → K * D ≤ X * d + Y * G + Y * H
    → K * (w + D) ≤ X * (v + d) + Y * (s + G) + Y * (t + H)
one_more K X Y w v s t D d G H h k = omega arith

-- on each axis u is within the box's side of c times p
data Beside (c : ℕ) : List ℕ → Hole → Box → Type 0 where
  none : Beside c [] [] []
  more : {u x : ℕ} {s : Side} {us : List ℕ} {p : Hole} {A : Box}
      → u ≤ c * x + long s → c * x ≤ u + long s → Beside c us p A → Beside c (u ∷ us) (x ∷ p) (s ∷ A)

-- so is twice the centre, by twice any place of the box
centre_beside : (A : Box) (p : Hole) → In p A → Beside 2 (C A) p A
unfolding C
centre_beside [] [] i = none
centre_beside [] (x ∷ p) i = absurd i
centre_beside (s ∷ A) [] i = absurd i
centre_beside (s ∷ A) (x ∷ p) i =
    more {u = s.low + s.high} {x = x} {s = s} (omega (arith, i.0, i.1)) (omega (arith, i.0, i.1)) (centre_beside A p i.2)

-- and any place of the box, by any other
place_beside : (A : Box) (p p' : Hole) → In p A → In p' A → Beside 1 p' p A
place_beside [] [] [] i j = none
place_beside [] [] (y ∷ q) i j = absurd j
place_beside [] (x ∷ p) q i j = absurd i
place_beside (s ∷ A) [] q i j = absurd i
place_beside (s ∷ A) (x ∷ p) [] i j = absurd j
place_beside (s ∷ A) (x ∷ p) (y ∷ q) i j =
    more {u = y} {x = x} {s = s} (omega (arith, i.0, j.1)) (omega (arith, i.1, j.0)) (place_beside A p q i.2 j.2)

-- so two places of a box are within its size
within_size : {p p' : Hole} {A : Box} → Beside 1 p' p A → distance² p' p ≤ G A
unfolding distance² G
within_size none = omega arith
within_size (more {u = u} {x = x} {s = s} h k r) = let g : gap u x ≤ long s = omega arith in omega (arith, mul-le-mul g g, within_size r)

-- one squared distance across by another, at the weights x and y
across_both : (c x y : ℕ) {u v p q : List ℕ} {A B : Box} → Beside c u p A → Beside c v q B
    → x * y * distance² u v ≤ c * c * (x * (x + y)) * distance² p q + 2 * (y * (x + y)) * G A + 2 * (y * (x + y)) * G B
unfolding distance² G
across_both c x y none none = omega arith
across_both c x y none (more j k r) = omega arith
across_both c x y (more h i l) none = omega arith
across_both c x y (more h i l) (more j k r) =
    one_more (x * y) (c * c * (x * (x + y))) (2 * (y * (x + y))) _ _ _ _ _ _ _ _
    (weighed_near c x y _ _ _ _ (axis_near c _ _ _ _ _ _ h i j k))
    (across_both c x y l r)

-- the same by the larger size: the bound that all others come from
across : (c x y : ℕ) {u v p q : List ℕ} {A B : Box} → Beside c u p A → Beside c v q B
    → x * y * distance² u v ≤ c * c * (x * (x + y)) * distance² p q + 4 * (y * (x + y)) * max (G A) (G B)
across c x y {A = A} {B = B} l r = larger _ _ (y * (x + y)) _ _ _ (across_both c x y l r) (le-max_left (G A) (G B)) (le-max_right (G A) (G B))
  where
    larger : (w z Y S T M : ℕ) → w ≤ z + 2 * Y * S + 2 * Y * T → S ≤ M → T ≤ M → w ≤ z + 4 * Y * M
    larger w z Y S T M h i j = omega (arith, mul-le-mul_left Y i, mul-le-mul_left Y j)

-- numbers alone: M is the larger size, D the centres' squared distance, d and e squared distances across
bound_size : (a b M D d : ℕ) → 2 * b * a * D ≤ 4 * (2 * b * (2 * b + a)) * d + 4 * (a * (2 * b + a)) * M
    → square (2 * b + a) * M ≤ square b * D → a * a * M ≤ 4 * (b * b) * d
bound_size zero b M D d u w = omega arith
bound_size (suc a) b M D d u w =
    le_of_mul-le-mul_right {k = 2 * (2 * b + suc a)} (omega (arith, mul-le-mul_left b u, mul-le-mul_left (2 * suc a) w)) (omega arith)

bound_other : (a b M d e : ℕ) → 0 < b → 4 * b * a * e ≤ 4 * b * (4 * b + a) * d + 4 * (a * (4 * b + a)) * M
    → a * a * M ≤ 4 * (b * b) * d → a * a * e ≤ (a + 4 * b) * (a + 4 * b) * d
bound_other a b M d e h u w =
    le_of_mul-le-mul_right {k = 4 * b} (omega (arith, mul-le-mul_left a u, mul-le-mul_left (4 * (4 * b + a)) w)) (omega arith)

bound_off : (a b M D d : ℕ) → 0 < a → D ≤ 8 * d + 8 * M → a * a * M ≤ 4 * (b * b) * d → D ≢ 0 → 0 < d
bound_off a b M D zero h u w k = let m : M ≤ 0 = omega (arith, mul-le-mul_right M (mul-le-mul h h)) in absurd (k (omega arith))
bound_off a b M D (suc d) h u w k = omega arith

bound_over : (a b M d : ℕ) → 2 * b < a → 0 < d → a * a * M ≤ 4 * (b * b) * d → M < d
bound_over a b M d h k w = go (dec_le d M)
  where
    go : Dec (d ≤ M) → M < d
    go (yes y) = absurd (omega (arith, mul-le-mul_left (a * a) y, mul-le-mul_right d (mul-le-mul h h)))
    go (no n) = omega arith

module _ (a b : ℕ) (A B : Box) (far : Separated a b A B) where
  -- the larger size by any distance across: a²·G ≤ (2b)²·d²
  pub small : (p q : Hole) → In p A → In q B → a * a * max (G A) (G B) ≤ 4 * (b * b) * distance² p q
  unfolding D
  small p q i j =
      bound_size a b (max (G A) (G B)) (D A B) (distance² p q)
      (across 2 (2 * b) a (centre_beside A p i) (centre_beside B q j))
      far.wide

  -- any distance across by any other: at most (a + 4b)/a of it
  pub alike : 0 < b → (p p' q q' : Hole) → In p A → In p' A → In q B → In q' B
      → a * a * distance² p' q' ≤ (a + 4 * b) * (a + 4 * b) * distance² p q
  alike h p p' q q' i i' j j' =
      bound_other a b (max (G A) (G B)) (distance² p q) (distance² p' q') h
      (omega (arith, across 1 (4 * b) a (place_beside A p p' i i') (place_beside B q q' j j')))
      (small p q i j)

  -- no distance across is 0
  off : 0 < a → (p q : Hole) → In p A → In q B → 0 < distance² p q
  unfolding D
  off h p q i j =
      bound_off a b (max (G A) (G B)) (D A B) (distance² p q) h
      (omega (arith, across 2 1 1 (centre_beside A p i) (centre_beside B q j)))
      (small p q i j)
      far.apart

  -- no place is in both
  pub disjoint : 0 < a → (p : Hole) → In p A → In p B → ⊥
  disjoint h p i j = omega (arith, off h p p i j, distance_itself p)

  -- two places of one are nearer to each other than to any of the other, at a ratio over 2
  pub nearer : 2 * b < a → (p p' q : Hole) → In p A → In p' A → In q B → distance² p p' < distance² p q
  nearer h p p' q i i' j =
      let s = bound_over a b (max (G A) (G B)) (distance² p q) h (off (omega arith) p q i j) (small p q i j) in
      omega (arith, within_size (place_beside A p' p i' i), le-max_left (G A) (G B))

-- the same of two separated sets of holes of a field
module _ (H : Field) (d a b : ℕ) (s t : List ℕ) (sized-s : Sized H d s) (sized-t : Sized H d t) (far : Separated a b (box_at H s) (box_at H t)) where
  in_s : (i : ℕ) → Memᴰ i s → In (hole H i) (box_at H s)
  in_s = in_box H d s sized-s

  in_t : (i : ℕ) → Memᴰ i t → In (hole H i) (box_at H t)
  in_t = in_box H d t sized-t

  -- they have no hole in common
  pub sets_disjoint : 0 < a → (i : ℕ) → Memᴰ i s → Memᴰ i t → ⊥
  sets_disjoint h i m n = disjoint a b _ _ far h (hole H i) (in_s i m) (in_t i n)

  pub sets_small : (p q : ℕ) → Memᴰ p s → Memᴰ q t
      → a * a * max (G (box_at H s)) (G (box_at H t)) ≤ 4 * (b * b) * distance² (hole H p) (hole H q)
  sets_small p q m n = small a b _ _ far (hole H p) (hole H q) (in_s p m) (in_t q n)

  pub sets_alike : 0 < b → (p p' q q' : ℕ) → Memᴰ p s → Memᴰ p' s → Memᴰ q t → Memᴰ q' t
      → a * a * distance² (hole H p') (hole H q') ≤ (a + 4 * b) * (a + 4 * b) * distance² (hole H p) (hole H q)
  sets_alike h p p' q q' m m' n n' =
      alike a b _ _ far h (hole H p) (hole H p') (hole H q) (hole H q') (in_s p m) (in_s p' m') (in_t q n) (in_t q' n')

  pub sets_nearer : 2 * b < a → (p p' q : ℕ) → Memᴰ p s → Memᴰ p' s → Memᴰ q t
      → distance² (hole H p) (hole H p') < distance² (hole H p) (hole H q)
  sets_nearer h p p' q m m' n = nearer a b _ _ far h (hole H p) (hole H p') (hole H q) (in_s p m) (in_s p' m') (in_t q n)

-- B is the node A or one under it
pub data Down (B : Tree) : Tree → Type 0 where
  itself : Down B B
  in_first : {k : ℕ} {f g : Tree} → Down B f → Down B (fork k f g)
  in_second : {k : ℕ} {f g : Tree} → Down B g → Down B (fork k f g)

holes_down : {B A : Tree} → Down B A → (i : ℕ) → Memᴰ i (under B) → Memᴰ i (under A)
unfolding under
holes_down itself i m = m
holes_down (in_first {g = g} r) i m = Memᴰ.append_left (under g) (holes_down r i m)
holes_down (in_second {f = f} r) i m = Memᴰ.append_right (under f) (holes_down r i m)

some_hole : (A : Tree) → (i : ℕ) × Memᴰ i (under A)
unfolding under
some_hole (leaf k x) = (x, Memᴰ.head refl)
some_hole (fork k f g) = let w = some_hole f in (w.0, Memᴰ.append_left (under g) w.1)

-- a node is never separated from itself or from one under it
pub never_nested : (H : Field) (d a b : ℕ) (A B : Tree) → 0 < a → Sized H d (under A) → Down B A
    → Separated a b (box_at H (under A)) (box_at H (under B)) → ⊥
never_nested H d a b A B h z r far =
    let w = some_hole B in
    sets_disjoint H d a b (under A) (under B) z (λ i m. z i (holes_down r i m)) far h w.0 (holes_down r w.0 w.1) w.1

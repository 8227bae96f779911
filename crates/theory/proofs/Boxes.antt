-- The box of a set of holes is document 01's "smallest upright rectangle, both ends included": it holds each hole of the set, since the box
-- around two boxes holds both, and every box that holds all the holes holds it, since each of its ends is an end of one of them. For any
-- number of coordinates. Assumes nothing.
use mathlib.Core.Path.{◌≡◌, refl, sym, ap, ◌∙◌}
use mathlib.Core.Logic.{⊎_elim}
use mathlib.Core.List.Memᴰ
use mathlib.Core.List.{List, [], ◌∷◌, Memᴰ}
use Prim.Native.Nat.{ℕ, suc, ◌≤◌}
use native.Mathlib.Nat.{min_comm, max_comm}
use native.Mathlib.Omega.{arith}
use lib.ListN.{length, length-map}
use Rattle.paper.specs.Field.{Hole, Field, hole}
use Rattle.paper.specs.Tree.{Box, point, spot, around, box_of, box_at}

-- a box inside another: as many sides, and each inside the other's side on its axis
abbrev pub Inside : Box → Box → Type 0
Inside [] [] = Unit {0}
Inside [] (t ∷ B) = ⊥
Inside (s ∷ A) [] = ⊥
Inside (s ∷ A) (t ∷ B) = (t.low ≤ s.low) × (s.high ≤ t.high) × Inside A B

-- a place in a box: as many coordinates, and each within the side on its axis
abbrev pub In : Hole → Box → Type 0
In p A = Inside (spot p) A

inside_itself : (A : Box) → Inside A A
inside_itself [] = tt
inside_itself (s ∷ A) = (omega arith, omega arith, inside_itself A)

inside_length : (A B : Box) → Inside A B → length A ≡ length B
inside_length [] [] i = refl
inside_length [] (t ∷ B) i = absurd i
inside_length (s ∷ A) [] i = absurd i
inside_length (s ∷ A) (t ∷ B) i = ap suc (inside_length A B i.2)

inside_inside : (A B C : Box) → Inside A B → Inside B C → Inside A C
inside_inside [] [] C i j = j
inside_inside [] (t ∷ B) C i j = absurd i
inside_inside (s ∷ A) [] C i j = absurd i
inside_inside (s ∷ A) (t ∷ B) [] i j = absurd j
inside_inside (s ∷ A) (t ∷ B) (r ∷ C) i j = (omega (arith, i.0, j.0), omega (arith, i.1, j.1), inside_inside A B C i.2 j.2)

-- the box around two boxes
around-none : (A : Box) → around A [] ≡ A
unfolding around
around-none [] = refl
around-none (s ∷ A) = refl

around_swapped : (A B : Box) → around A B ≡ around B A
unfolding around
around_swapped [] B = sym (around-none B)
around_swapped (s ∷ A) [] = refl
around_swapped (s ∷ A) (t ∷ B) = rw (min_comm s.low t.low, max_comm s.high t.high, around_swapped A B)

around-first : (A B : Box) → length A ≡ length B → Inside A (around A B)
unfolding around
around-first [] [] e = tt
around-first [] (t ∷ B) e = absurd (omega arith)
around-first (s ∷ A) [] e = absurd (omega arith)
around-first (s ∷ A) (t ∷ B) e = (omega arith, omega arith, around-first A B (omega arith))

around_second : (A B : Box) → length A ≡ length B → Inside B (around A B)
around_second A B e = rw around_swapped (around-first B A (sym e))

around_smallest : (A B C : Box) → Inside A C → Inside B C → Inside (around A B) C
unfolding around
around_smallest [] B C i j = j
around_smallest (s ∷ A) [] C i j = i
around_smallest (s ∷ A) (t ∷ B) [] i j = absurd i
around_smallest (s ∷ A) (t ∷ B) (r ∷ C) i j =
    (omega (arith, i.0, j.0), omega (arith, i.1, j.1), around_smallest A B C i.2 j.2)

module _ (H : Field) where
  -- each hole of a set has d coordinates
  abbrev pub Sized : ℕ → List ℕ → Type 0
  Sized d s = (i : ℕ) → Memᴰ i s → length (hole H i) ≡ d

  pub box_one : (i : ℕ) → box_at H (i ∷ []) ≡ spot (hole H i)
  unfolding box_at box_of
  box_one i = around-none (spot (hole H i))

  box_more : (i : ℕ) (s : List ℕ) → box_at H (i ∷ s) ≡ around (spot (hole H i)) (box_at H s)
  unfolding box_at box_of
  box_more i s = refl

  -- a hole lies in the box of each set that it is one of
  pub in_box : (d : ℕ) (s : List ℕ) → Sized d s → (i : ℕ) → Memᴰ i s → In (hole H i) (box_at H s)
  in_box d [] z i m = absurd (Memᴰ.not-nil m)
  in_box d (j ∷ []) z i m = rw (Memᴰ.eq_of_singleton m, box_one j) (inside_itself (spot (hole H j)))
  in_box d (j ∷ k ∷ s) z i m =
      let rest = in_box d (k ∷ s) (λ x n. z x (Memᴰ.tail n)) in
      let first = spot (hole H j) in
      let e : length first ≡ length (box_at H (k ∷ s))
      = length-map (hole H j) point
      ∙ z j (Memᴰ.head refl)
      ∙ sym (z k (Memᴰ.tail (Memᴰ.head refl)))
      ∙ sym (length-map (hole H k) point)
      ∙ inside_length (spot (hole H k)) (box_at H (k ∷ s)) (rest k (Memᴰ.head refl)) in
      rw (box_more j (k ∷ s))
      (⊎_elim
      (λ h. rw h (around-first first (box_at H (k ∷ s)) e))
      (λ n. inside_inside (spot (hole H i)) (box_at H (k ∷ s)) _ (rest i n) (around_second first (box_at H (k ∷ s)) e))
      (Memᴰ.cases_cons m))

  -- and the box is inside every box that all the holes of the set lie in
  pub box_smallest : (B : Box) (s : List ℕ) → (i : ℕ) → Memᴰ i s → ((j : ℕ) → Memᴰ j s → In (hole H j) B) → Inside (box_at H s) B
  box_smallest B [] i m f = absurd (Memᴰ.not-nil m)
  box_smallest B (j ∷ []) i m f = rw (box_one j) (f j (Memᴰ.head refl))
  box_smallest B (j ∷ k ∷ s) i m f =
      rw (box_more j (k ∷ s))
      (around_smallest (spot (hole H j)) (box_at H (k ∷ s)) B
      (f j (Memᴰ.head refl))
      (box_smallest B (k ∷ s) k (Memᴰ.head refl) (λ x n. f x (Memᴰ.tail n))))

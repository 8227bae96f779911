-- Document 01, "Field and ratio". For any number of coordinates. Assumes nothing.
use Rattle.std.specs.Prelude.{Bool, ◌&&◌, List, [], ◌∷◌, map, ℕ, ◌+◌, ◌*◌, ◌-◌, ◌≤◌, leb, get_or}
use Rattle.words.specs.Words.{be, bytes}
use Rattle.paper.specs.Lists.{joined, below}

-- a hole is the list of its coordinates
abbrev pub Hole : Type 0
Hole = List ℕ

-- holes are numbered from 0 in the order given
abbrev pub Field : Type 0
Field = List Hole

abbrev pub hole : Field → ℕ → Hole
hole H i = get_or H i []

-- a field has 1 to 1,024 holes
abbrev pub most_holes : ℕ
most_holes = 1_024

-- the coordinate list is bytes: each coordinate in two bytes, high byte first
abbrev pub hole_bytes : Hole → List ℕ
hole_bytes h = joined (bytes 2) h

-- n things of w bytes each, one after the other from the place `at` of r on
unfoldable pub list_at : {B : Type 0} → (List ℕ → ℕ → B) → ℕ → List ℕ → ℕ → ℕ → List B
list_at read w r at n = map (λ k. read r (at + w * k)) (below n)

-- a hole of d coordinates
unfoldable pub hole_at : ℕ → List ℕ → ℕ → Hole
hole_at d r at = list_at (be 2) 2 r at d

unfoldable pub holes_at : ℕ → List ℕ → ℕ → ℕ → Field
holes_at d r at n = list_at (hole_at d) (2 * d) r at n

-- how far two numbers are apart
abbrev pub gap : ℕ → ℕ → ℕ
gap x y = (x - y) + (y - x)

abbrev pub square : ℕ → ℕ
square n = n * n

-- the squared distance of two places
unfoldable pub distance² : List ℕ → List ℕ → ℕ
distance² [] q = 0
distance² (x ∷ p) [] = 0
distance² (x ∷ p) (y ∷ q) = square (gap x y) + distance² p q

-- from lo to hi
abbrev pub within : ℕ → ℕ → ℕ → Bool
within lo hi x = leb lo x && leb x hi

-- the ratio is a/b with a from 1 to 64 and b from 1 to 8
unfoldable pub ratio_ok : ℕ → ℕ → Bool
ratio_ok a b = within 1 64 a && within 1 8 b

pub record Ratio (a b : ℕ) : Type 0 where
  pub a_low : 1 ≤ a
  pub a_high : a ≤ 64
  pub b_low : 1 ≤ b
  pub b_high : b ≤ 8

-- the work area has at least 65,536 bytes
abbrev pub least_work : ℕ
least_work = 65_536

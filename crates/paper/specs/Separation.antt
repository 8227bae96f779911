-- Document 01, "Separation". For any number of coordinates. Assumes nothing.
use Rattle.std.specs.Prelude.{◌≢◌, Bool, ◌&&◌, not, List, [], ◌∷◌, map, ℕ, ◌+◌, ◌*◌, ◌≤◌, max, leb, eqb}
use Rattle.paper.specs.Field.{Field, square, distance²}
use Rattle.paper.specs.Tree.{Box, long, longest, Tree, under, box_at}

-- "For a box, G is width squared plus height squared"
unfoldable pub G : Box → ℕ
G [] = 0
G (s ∷ b) = square (long s) + G b

-- "C is (left + right, bottom + top), twice the centre"
unfoldable pub C : Box → List ℕ
C b = map (λ s. s.low + s.high) b

-- "D is the squared distance between the two C"
unfoldable pub D : Box → Box → ℕ
D A B = distance² (C A) (C B)

-- "Two nodes are separated exactly when D is not 0 and b²·D >= (2b + a)²·(the larger G)", at the ratio a/b
unfoldable pub separated : ℕ → ℕ → Box → Box → Bool
separated a b A B = not (eqb (D A B) 0) && leb (square (2 * b + a) * max (G A) (G B)) (square b * D A B)

-- the same as a statement
pub record Separated (a b : ℕ) (A B : Box) : Type 0 where
  pub apart : D A B ≢ 0
  pub wide : square (2 * b + a) * max (G A) (G B) ≤ square b * D A B

module _ (H : Field) where
  -- of two nodes of a field's tree
  unfoldable pub far : ℕ → ℕ → Tree → Tree → Bool
  far a b A B = separated a b (box_at H (under A)) (box_at H (under B))

  -- "A node's side here is the longer side of its box"
  unfoldable pub side : Tree → ℕ
  side A = longest (box_at H (under A))

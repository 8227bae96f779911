-- The sides of a node's box on the slate, one axis at a time. Assumes nothing.
use Rattle.std.specs.Prelude.{◌≡◌, List, sum_by, ℕ, ◌+◌, ◌*◌, ◌<◌, ◌≤◌, min, max, length}
use Rattle.words.specs.Area.{word}
use Rattle.slate.specs.Columns.{LOW, HIGH}
use Rattle.slate.specs.Slate.{Grid}
use Rattle.paper.specs.Lists.{below}
use Rattle.paper.specs.Field.{gap, square}
use Rattle.paper.specs.Tree.{Side}
use Rattle.field.specs.Boxes.{side_on}

-- the smallest side that holds both
abbrev pub side_around : Side → Side → Side
side_around s t = record { low = min s.low t.low; high = max s.high t.high }

-- a side's part of C
abbrev pub twice_centre : Side → ℕ
twice_centre s = s.low + s.high

-- how far nodes j and k are apart on axis x, by what f takes of a side
abbrev pub gap_on : (Side → ℕ) → List ℕ → ℕ → ℕ → ℕ → ℕ
gap_on f w j k x = gap (f (side_on w j x)) (f (side_on w k x))

-- there is a node k, with a side on axis x
pub record SideIn (w : List ℕ) (x k : ℕ) : Type 0 where
  pub grid : Grid w
  pub axis : x < 3
  pub row : k < 2_048

-- node k's side on axis x is s; every other word is as it was
pub record Sided (old new : List ℕ) (x k : ℕ) (s : Side) : Type 0 where
  pub len : length new ≡ length old
  pub is : side_on new k x ≡ s
  pub rest : (i : ℕ) → (i ≡ 2_048 * (LOW + 2 * x) + k → ⊥) → (i ≡ 2_048 * (HIGH + 2 * x) + k → ⊥) → word new i ≡ word old i

-- node k's sides on the axes from x on are as they were, and so is every word but its sides
pub record LeftFrom (old new : List ℕ) (k x : ℕ) : Type 0 where
  pub len : length new ≡ length old
  pub sides : (y : ℕ) → x ≤ y → side_on new k y ≡ side_on old k y
  pub rest : (i : ℕ) → ((c : ℕ) → LOW ≤ c → c < 16 → i ≡ 2_048 * c + k → ⊥) → word new i ≡ word old i

-- the sum of the squares of what f makes of the axes below d
unfoldable pub squares : (ℕ → ℕ) → ℕ → ℕ
squares f d = sum_by (λ x. square (f x)) (below d)

-- r is the square of x, of a number no larger than twice a coordinate
pub record Squared (x r : ℕ) : Type 0 where
  pub is : r ≡ square x
  pub small : r < 17_179_869_184

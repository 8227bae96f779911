-- Holes in a list of bytes, and the boxes of nodes on the slate, for one to three coordinates. Assumes nothing.
use Rattle.std.specs.Prelude.{◌≡◌, List, map, ℕ, ◌+◌, ◌*◌, ◌<◌, ◌≤◌, length}
use Rattle.words.specs.Area.{word}
use Rattle.slate.specs.Columns.{LOW, HIGH}
use Rattle.slate.specs.Slate.{cell, Grid}
use Rattle.paper.specs.Lists.{below}
use Rattle.paper.specs.Tree.{Side, Box}

-- holes have one to three coordinates
pub record Axes (d : ℕ) : Type 0 where
  pub some : 1 ≤ d
  pub few : d ≤ 3

-- there are n holes of d coordinates in a list of bytes; there is a hole i
pub record HolesIn (hs : List ℕ) (d n : ℕ) : Type 0 where
  pub axes : Axes d
  pub few : n ≤ 1_024
  pub all : 2 * d * n ≤ length hs

pub record HoleIn (hs : List ℕ) (d i : ℕ) : Type 0 where
  pub axes : Axes d
  pub few : i < 1_024
  pub here : 2 * d * i + 2 * d ≤ length hs

-- node k's side on axis x, and its box
abbrev pub side_on : List ℕ → ℕ → ℕ → Side
side_on w k x = record { low = cell w (LOW + 2 * x) k; high = cell w (HIGH + 2 * x) k }

unfoldable pub box_on : List ℕ → ℕ → ℕ → Box
box_on w d k = map (side_on w k) (below d)

-- the low end of a side, and those of a box: of the box of one hole they are the hole
abbrev pub low_end : Side → ℕ
low_end s = s.low

abbrev pub corner : Box → List ℕ
corner B = map low_end B

-- there is a node k, with a box of d sides
pub record NodeOn (w : List ℕ) (d k : ℕ) : Type 0 where
  pub grid : Grid w
  pub axes : Axes d
  pub row : k < 2_048

-- node k's box is B; every word but its sides is as it was
pub record Boxed (old new : List ℕ) (d k : ℕ) (B : Box) : Type 0 where
  pub len : length new ≡ length old
  pub box : box_on new d k ≡ B
  pub rest : (i : ℕ) → ((c : ℕ) → LOW ≤ c → c < 16 → i ≡ 2_048 * c + k → ⊥) → word new i ≡ word old i

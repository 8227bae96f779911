-- Document 01, "Tree": boxes, the cutting, the numbering. For any number of coordinates. Assumes nothing.
use Rattle.std.specs.Prelude.{Bool, true, false, not, List, [], ◌∷◌, ◌++◌, map, ℕ, zero, suc, ◌+◌, ◌*◌, ◌-◌, min, max, leb, get_or, length}
use Rattle.paper.specs.Lists.{keep, below}
use Rattle.paper.specs.Field.{Hole, Field, hole}

-- a side goes from its low end to its high end, both included; a box has one on each axis
abbrev pub Side : Type 0
Side = record { low : ℕ; high : ℕ }

abbrev pub Box : Type 0
Box = List Side

abbrev pub point : ℕ → Side
point c = record { low = c; high = c }

-- the box of one hole
abbrev pub spot : Hole → Box
spot h = map point h

-- the smallest box that holds both. [] is the box of no hole
unfoldable pub around : Box → Box → Box
around [] b = b
around (x ∷ a) [] = x ∷ a
around (x ∷ a) (y ∷ b) = record { low = min x.low y.low; high = max x.high y.high } ∷ around a b

-- "The box of a set is its smallest upright rectangle"
unfoldable pub box_of : List Hole → Box
box_of [] = []
box_of (h ∷ hs) = around (spot h) (box_of hs)

abbrev pub long : Side → ℕ
long s = s.high - s.low

-- the longest side, and the first axis that has it: x where x and y are equal
unfoldable pub longest : Box → ℕ
longest [] = 0
longest (s ∷ b) = max (long s) (longest b)

unfoldable pub axis : Box → ℕ
axis [] = 0
axis (s ∷ b) = elim (leb (longest b) (long s)) [ true ↦ 0 | false ↦ suc (axis b) ]

-- a leaf has its number and its hole; any other node its number and its two parts
pub data Tree : Type 0 where
  leaf : ℕ → ℕ → Tree
  fork : ℕ → Tree → Tree → Tree

unfoldable pub number : Tree → ℕ
number (leaf k x) = k
number (fork k a b) = k

-- the holes under a node
unfoldable pub under : Tree → List ℕ
under (leaf k x) = x ∷ []
under (fork k a b) = under a ++ under b

-- a set of holes is cut by a test that tells which of them go to the first part
module _ (first : List ℕ → ℕ → Bool) where
  abbrev pub first_part : List ℕ → List ℕ
  first_part s = keep (first s) s

  abbrev pub second_part : List ℕ → List ℕ
  second_part s = keep (λ i. not (first s i)) s

  -- "Nodes are numbered from 0 as they are met: a node, then all of its first part, then all of its second." A part of n holes
  -- has 2n - 1 nodes. f bounds the depth: no cut goes as deep as there are holes
  unfoldable pub cut : ℕ → ℕ → List ℕ → Tree
  cut zero k s = leaf k 0
  cut (suc f) k [] = leaf k 0
  cut (suc f) k (i ∷ []) = leaf k i
  cut (suc f) k (i ∷ j ∷ s) =
      let one = first_part (i ∷ j ∷ s) in
      let two = second_part (i ∷ j ∷ s) in
      fork k (cut f (k + 1) one) (cut f (k + 2 * length one) two)

  -- the tree of a set, its root numbered k
  unfoldable pub tree_from : ℕ → List ℕ → Tree
  tree_from k s = cut (length s) k s

module _ (H : Field) where
  -- the box of some holes, given by their numbers
  unfoldable pub box_at : List ℕ → Box
  box_at s = box_of (map (hole H) s)

  -- "take the longer side of the box, x when they are equal, from l to r. The first part has the holes whose coordinate c
  -- satisfies 2c <= l + r; the second has the rest"
  unfoldable pub first : List ℕ → ℕ → Bool
  first s i =
      let x = axis (box_at s) in
      let e : Side = get_or (box_at s) x (point 0) in
      leb (2 * get_or (hole H i) x 0) (e.low + e.high)

  unfoldable pub tree_of : Tree
  tree_of = tree_from first 0 (below (length H))

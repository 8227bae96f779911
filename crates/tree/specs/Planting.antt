-- Holes on the slate that are still to be cut: a stretch of ORDER is a set of holes, and cutting it puts its first part in front. Assumes nothing.
use Rattle.std.specs.Prelude.{◌≡◌, List, ◌++◌, map, ℕ, ◌+◌, ◌*◌, ◌-◌, ◌<◌, ◌≤◌, length}
use Rattle.words.specs.Area.{word, run}
use Rattle.slate.specs.Columns.{FIRST, SECOND, ORDER, SCRATCH, LOW}
use Rattle.slate.specs.Slate.{cell, column, Grid}
use Rattle.paper.specs.Lists.{from, below}
use Rattle.paper.specs.Field.{Field, holes_at}
use Rattle.paper.specs.Tree.{first, first_part, second_part, box_at, tree_from, tree_of}
use Rattle.paper.specs.Record.{entries, nodes_of}
use Rattle.field.specs.Boxes.{HolesIn, box_on}
use Rattle.theory.proofs.Halving.{Good}
use Rattle.theory.proofs.Fields.{Distinct}
use Rattle.tree.specs.Standing.{tree_on}

-- the m holes from place lo of ORDER on
abbrev pub stretch : List ℕ → ℕ → ℕ → List ℕ
stretch w lo m = run w (2_048 * ORDER + lo) m

-- m nodes on the slate, from node k on
abbrev pub rows : List ℕ → ℕ → ℕ → List (ℕ × ℕ)
rows w k m = map (λ j. (cell w FIRST j, cell w SECOND j)) (from k m)

-- the stretch holds numbers of the n holes in hs
pub record StretchOn (w hs : List ℕ) (d n lo m : ℕ) : Type 0 where
  pub grid : Grid w
  pub holes : HolesIn hs d n
  pub some : 1 ≤ m
  pub end : lo + m ≤ n
  pub each : (i : ℕ) → i < m → cell w ORDER (lo + i) < n

-- the same, and node k's box is the stretch's
pub record PartReady (w hs : List ℕ) (d n lo m k : ℕ) : Type 0 where
  pub on : StretchOn w hs d n lo m
  pub row : k < 2_048
  pub box : box_on w d k ≡ box_at (holes_at d hs 0 n) (stretch w lo m)

-- the first part of the stretch stands in front, in its order, and then the second; r holes are in the first
pub record Parted (H : Field) (lo m : ℕ) (old new : List ℕ) (r : ℕ) : Type 0 where
  pub len : length new ≡ length old
  pub size : r ≡ length (first_part (first H) (stretch old lo m))
  pub parts : stretch new lo m ≡ first_part (first H) (stretch old lo m) ++ second_part (first H) (stretch old lo m)
  pub rest : (i : ℕ) → (2_048 * ORDER + lo ≤ i → i < 2_048 * ORDER + lo + m → ⊥) → (2_048 * SCRATCH ≤ i → i < 2_048 * SCRATCH + m → ⊥)
      → word new i ≡ word old i

-- cut in two: as `Parted`, but the boxes may have changed
pub record CutInTwo (H : Field) (lo m : ℕ) (old new : List ℕ) (r : ℕ) : Type 0 where
  pub len : length new ≡ length old
  pub size : r ≡ length (first_part (first H) (stretch old lo m))
  pub parts : stretch new lo m ≡ first_part (first H) (stretch old lo m) ++ second_part (first H) (stretch old lo m)
  pub rest : (i : ℕ) → (2_048 * ORDER + lo ≤ i → i < 2_048 * ORDER + lo + m → ⊥) → (2_048 * SCRATCH ≤ i → i < 2_048 * SCRATCH + m → ⊥)
      → i < 2_048 * LOW → word new i ≡ word old i

-- a stretch that may be planted from node k on
pub record Plantable (w hs : List ℕ) (d n lo m k : ℕ) : Type 0 where
  pub on : StretchOn w hs d n lo m
  pub rows : k + nodes_of m ≤ 2_048
  pub good : Good (holes_at d hs 0 n) d (stretch w lo m)

-- a stretch of two or more holes is cut in two, and node k names the two parts' roots: the first part follows it, then the second
pub record Forked (H : Field) (lo m k : ℕ) (old new : List ℕ) (r : ℕ) : Type 0 where
  pub len : length new ≡ length old
  pub some : 1 ≤ r
  pub fewer : r < m
  pub size : r ≡ length (first_part (first H) (stretch old lo m))
  pub one : cell new FIRST k ≡ k + 1
  pub two : cell new SECOND k ≡ k + 2 * r
  pub front : stretch new lo r ≡ first_part (first H) (stretch old lo m)
  pub back : stretch new (lo + r) (m - r) ≡ second_part (first H) (stretch old lo m)
  pub rest : (i : ℕ) → (i ≡ 2_048 * FIRST + k → ⊥) → (i ≡ 2_048 * SECOND + k → ⊥)
      → (2_048 * ORDER + lo ≤ i → i < 2_048 * ORDER + lo + m → ⊥)
      → (2_048 * SCRATCH ≤ i → i < 2_048 * SCRATCH + m → ⊥)
      → i < 2_048 * LOW → word new i ≡ word old i

-- its tree stands from node k on. Beside that only the stretch, SCRATCH and boxes have changed
pub record Planted (H : Field) (lo m k : ℕ) (old new : List ℕ) : Type 0 where
  pub len : length new ≡ length old
  pub nodes : rows new k (nodes_of m) ≡ entries (tree_from (first H) k (stretch old lo m))
  pub rest : (i : ℕ) → (2_048 * FIRST + k ≤ i → i < 2_048 * FIRST + k + nodes_of m → ⊥)
      → (2_048 * SECOND + k ≤ i → i < 2_048 * SECOND + k + nodes_of m → ⊥)
      → (2_048 * ORDER + lo ≤ i → i < 2_048 * ORDER + lo + m → ⊥)
      → (2_048 * SCRATCH ≤ i → i < 2_048 * SCRATCH + 1_024 → ⊥)
      → i < 2_048 * LOW → word new i ≡ word old i

-- holes at different places
pub record FieldIn (hs : List ℕ) (d n : ℕ) : Type 0 where
  pub holes : HolesIn hs d n
  pub some : 1 ≤ n
  pub distinct : Distinct (holes_at d hs 0 n)

-- the holes below n stand in ORDER by their numbers
pub record Numbered (n : ℕ) (old new : List ℕ) : Type 0 where
  pub len : length new ≡ length old
  pub order : column new ORDER n ≡ below n

-- the field's tree stands on the slate
pub record Grown (H : Field) (n : ℕ) (old new : List ℕ) : Type 0 where
  pub len : length new ≡ length old
  pub nodes : (tree_on new n).nodes ≡ entries (tree_of H)

-- What the builder's steps ask and leave, from a list of coordinates to the bytes of its record. Assumes nothing.
use Rattle.std.specs.Prelude.{◌≡◌, List, [], ◌∷◌, ◌++◌, map, ℕ, ◌+◌, ◌*◌, ◌≤◌, length}
use Rattle.words.specs.Words.{bytes, Bytes}
use Rattle.slate.specs.Slate.{Grid}
use Rattle.paper.specs.Lists.{joined}
use Rattle.paper.specs.Field.{most_holes, holes_at}
use Rattle.paper.specs.Tree.{tree_of}
use Rattle.paper.specs.Pairs.{pairs_of, numbers}
use Rattle.paper.specs.Record.{entries, nodes_of, two_numbers}
use Rattle.theory.proofs.Fields.{Distinct}
use Rattle.tree.specs.Standing.{tree_on}
use Rattle.tree.specs.Steps.{Summed}
use Rattle.pairs.specs.Listing.{ShapesPut, Listable, pairs_on}

-- n holes at different places
pub record Buildable (c : List ℕ) (n : ℕ) : Type 0 where
  pub even : length c ≡ 4 * n
  pub some : 1 ≤ n
  pub few : n ≤ most_holes
  pub distinct : Distinct (holes_at 2 c 0 n)
  pub small : Bytes c

-- a tree that was summed up, and then what comparisons ask of its nodes was put beside it
pub record Sized (c : List ℕ) (a b n : ℕ) (old new : List ℕ) : Type 0 where
  pub between : List ℕ
  pub summed : Summed c 2 n old between
  pub shapes : ShapesPut 2 a b n between new

-- the field's tree stands on the slate with its boxes, so that its pairs can be listed
pub record Drawn (c : List ℕ) (a b n : ℕ) (w : List ℕ) : Type 0 where
  pub listable : Listable w 2 a b n
  pub nodes : (tree_on w n).nodes ≡ entries (tree_of (holes_at 2 c 0 n))
  pub pairs : pairs_on w 2 a b n ≡ map numbers (pairs_of (holes_at 2 c 0 n) a b)

-- room for the ratio, the hole count and the holes; for the node count and the nodes
pub record HeadFits (out c : List ℕ) (n : ℕ) : Type 0 where
  pub even : length c ≡ 4 * n
  pub few : n ≤ most_holes
  pub room : 4 + 4 * n ≤ length out

pub record NodesFit (out w : List ℕ) (n : ℕ) : Type 0 where
  pub grid : Grid w
  pub some : 1 ≤ n
  pub few : n ≤ most_holes
  pub room : 2 + 12 * n ≤ length out

-- the ratio, the hole count and the holes
abbrev pub head : List ℕ → ℕ → ℕ → ℕ → List ℕ
head c a b n = (a ∷ b ∷ []) ++ bytes 2 n ++ c

-- the node count and the nodes
abbrev pub node_bytes : List ℕ → ℕ → List ℕ
node_bytes w n = bytes 2 (nodes_of n) ++ joined two_numbers (tree_on w n).nodes

-- all that stands before the pairs, of which there are m
abbrev pub front : List ℕ → ℕ → ℕ → ℕ → ℕ → List ℕ → List ℕ
front c a b n m w = head c a b n ++ node_bytes w n ++ bytes 4 m

pub record FrontFits (c : List ℕ) (n : ℕ) (w out : List ℕ) : Type 0 where
  pub field : Buildable c n
  pub grid : Grid w
  pub room : 6 + 12 * n ≤ length out

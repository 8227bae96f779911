-- Document 01, "Record bytes": the bytes written, and what they say when read. Assumes nothing.
use Rattle.std.specs.Prelude.{List, [], ◌∷◌, ◌++◌, map, ℕ, ◌+◌, ◌*◌, ◌-◌, get_or, length}
use Rattle.words.specs.Words.{be, bytes}
use Rattle.paper.specs.Lists.{joined}
use Rattle.paper.specs.Field.{Field, hole_bytes, list_at, holes_at}
use Rattle.paper.specs.Tree.{Tree, leaf, fork, number, tree_of}
use Rattle.paper.specs.Pairs.{pairs_of, numbers}

-- what a record says, however its bytes are laid out
pub record View : Type 0 where
  pub a : ℕ
  pub b : ℕ
  pub holes : Field
  pub nodes : List (ℕ × ℕ)
  pub pairs : List (ℕ × ℕ)

-- "nodes: first child, second child; a leaf is 65,535 and its hole number"
abbrev pub leaf_mark : ℕ
leaf_mark = 65_535

-- the entries of a tree's nodes, in number order
unfoldable pub entries : Tree → List (ℕ × ℕ)
entries (leaf k x) = (leaf_mark, x) ∷ []
entries (fork k a b) = (number a, number b) ∷ entries a ++ entries b

-- "pairs: two node numbers", and a node's entry: two numbers of two bytes
abbrev pub two_numbers : ℕ × ℕ → List ℕ
two_numbers p = bytes 2 p.0 ++ bytes 2 p.1

-- "Sections stand in a fixed order, each after its count"
unfoldable pub written : View → List ℕ
written v =
    (v.a ∷ v.b ∷ [])
    ++ (bytes 2 (length v.holes) ++ joined hole_bytes v.holes)
    ++ (bytes 2 (length v.nodes) ++ joined two_numbers v.nodes)
    ++ (bytes 4 (length v.pairs) ++ joined two_numbers v.pairs)

-- what the builder's record says of a field
unfoldable pub built : ℕ → ℕ → Field → View
built a b H = record { a = a; b = b; holes = H; nodes = entries (tree_of H); pairs = map numbers (pairs_of H a b) }

-- reading: two numbers of two bytes
abbrev pub two_numbers_at : List ℕ → ℕ → ℕ × ℕ
two_numbers_at r at = (be 2 r at, be 2 r (at + 2))

-- where the parts of a record of n holes start: the holes, the node count and the nodes, the pair count and the pairs
abbrev pub holes_start : ℕ
holes_start = 4

abbrev pub node_count_at : ℕ → ℕ
node_count_at n = 4 + 4 * n

abbrev pub nodes_start : ℕ → ℕ
nodes_start n = 6 + 4 * n

abbrev pub pair_count_at : ℕ → ℕ
pair_count_at n = 2 + 12 * n

abbrev pub pairs_start : ℕ → ℕ
pairs_start n = 6 + 12 * n

-- "The whole is 6 + 12n + 4m bytes"
abbrev pub whole : ℕ → ℕ → ℕ
whole n m = pairs_start n + 4 * m

-- the counts that a record gives: its holes, its nodes, its pairs
abbrev pub holes_in : List ℕ → ℕ
holes_in r = be 2 r 2

abbrev pub nodes_in : List ℕ → ℕ
nodes_in r = be 2 r (node_count_at (holes_in r))

abbrev pub pairs_in : List ℕ → ℕ
pairs_in r = be 4 r (pair_count_at (holes_in r))

-- "A field of n holes has 2n - 1 nodes"
abbrev pub nodes_of : ℕ → ℕ
nodes_of n = 2 * n - 1

-- a part of a record: where it starts and how many bytes it has
pub record Part : Type 0 where
  pub start : ℕ
  pub size : ℕ

-- the sections, without their counts
unfoldable pub holes_part : List ℕ → Part
holes_part r = record { start = holes_start; size = 4 * holes_in r }

unfoldable pub nodes_part : List ℕ → Part
nodes_part r = record { start = nodes_start (holes_in r); size = 4 * nodes_of (holes_in r) }

unfoldable pub pairs_part : List ℕ → Part
pairs_part r = record { start = pairs_start (holes_in r); size = 4 * pairs_in r }

-- what the bytes of a record say
unfoldable pub view_of : List ℕ → View
view_of r =
    record {
      a = get_or r 0 0;
      b = get_or r 1 0;
      holes = holes_at 2 r holes_start (holes_in r);
      nodes = list_at two_numbers_at 4 r (nodes_start (holes_in r)) (nodes_of (holes_in r));
      pairs = list_at two_numbers_at 4 r (pairs_start (holes_in r)) (pairs_in r);
    }

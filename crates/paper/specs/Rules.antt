-- Document 01, "Record bytes", the record rules: what a record must meet, whoever made it. Each rule twice: as a test that computes, and
-- as a statement in the document's words; `Statements` of `theory` proves that they agree. Assumes nothing.
use Rattle.std.specs.Prelude.{◌≡◌, ◌≢◌, ◌⊎◌, Bool, true, false, ◌&&◌, ◌||◌, not, ℕ, zero, suc, ◌*◌, ◌-◌, ◌/◌, ◌≤◌, ◌<◌, ltb, eqb, get_or, length}
use mathlib.Core.List.{List, [], ◌∷◌, ◌++◌, Memᴰ}
use Rattle.paper.specs.Lists.{some_of, count, same, has, below}
use Rattle.paper.specs.Field.{Field, hole, Ratio, most_holes}
use Rattle.paper.specs.Tree.{Box, box_at}
use Rattle.paper.specs.Separation.{separated, Separated}
use Rattle.paper.specs.Record.{View, leaf_mark, nodes_of, holes_in, nodes_in, pairs_in, whole, view_of}

-- "a hole stands where a lower-numbered one does"
unfoldable pub repeats : Field → ℕ → Bool
repeats H i = some_of (λ j. same (hole H j) (hole H i)) (below i)

pub record Repeats (H : Field) (i : ℕ) : Type 0 where
  pub other : ℕ
  pub lower : other < i
  pub place : hole H other ≡ hole H i

module _ (v : View) where
  abbrev pub hole_count : ℕ
  hole_count = length v.holes

  abbrev pub node_count : ℕ
  node_count = nodes_of hole_count

  abbrev pub pair_count : ℕ
  pair_count = length v.pairs

  abbrev pub node : ℕ → ℕ × ℕ
  node k = get_or v.nodes k (0, 0)

  abbrev pub pair : ℕ → ℕ × ℕ
  pair k = get_or v.pairs k (0, 0)

  abbrev pub is_leaf : ℕ → Bool
  is_leaf k = eqb (node k).0 leaf_mark

  -- node j names the node c for one of its parts
  unfoldable pub names : ℕ → ℕ → Bool
  names c j = not (is_leaf j) && (eqb (node j).0 c || eqb (node j).1 c)

  -- leaf j names the hole h
  unfoldable pub holds : ℕ → ℕ → Bool
  holds h j = is_leaf j && eqb (node j).1 h

  -- "each above k and below 2n - 1, not named by a lower-numbered node"
  unfoldable pub part_ok : ℕ → ℕ → Bool
  part_ok k c = ltb k c && ltb c node_count && not (some_of (names c) (below k))

  -- "each leaf names a hole below n that no lower-numbered leaf names; any other node k names two different nodes, each .."
  unfoldable pub node_ok : ℕ → Bool
  node_ok k =
      elim (is_leaf k) [
        | true ↦ ltb (node k).1 hole_count && not (some_of (holds (node k).1) (below k))
        | false ↦ not (eqb (node k).0 (node k).1) && part_ok k (node k).0 && part_ok k (node k).1
      ]

  -- the same as statements
  abbrev pub Leaf : ℕ → Type 0
  Leaf k = (node k).0 ≡ leaf_mark

  abbrev pub Names : ℕ → ℕ → Type 0
  Names j c = (Leaf j → ⊥) × (((node j).0 ≡ c) ⊎ ((node j).1 ≡ c))

  pub record LeafRule (k : ℕ) : Type 0 where
    pub hole : (node k).1 < hole_count
    pub new : (j : ℕ) → j < k → Leaf j → (node j).1 ≢ (node k).1

  pub record PartRule (k c : ℕ) : Type 0 where
    pub above : k < c
    pub node : c < node_count
    pub new : (j : ℕ) → j < k → Names j c → ⊥

  pub record ForkRule (k : ℕ) : Type 0 where
    pub different : (node k).0 ≢ (node k).1
    pub first : PartRule k (node k).0
    pub second : PartRule k (node k).1

  pub record NodeRule (k : ℕ) : Type 0 where
    pub leaf : Leaf k → LeafRule k
    pub fork : (Leaf k → ⊥) → ForkRule k

  -- "a node above 0 that no node names"
  unfoldable pub loose : ℕ → Bool
  loose k = ltb 0 k && not (some_of (names k) (below node_count))

  -- the holes under node k. Parts have higher numbers, so no way down is longer than there are nodes
  unfoldable pub under_from : ℕ → ℕ → List ℕ
  under_from zero k = []
  under_from (suc f) k = elim (is_leaf k) [ true ↦ (node k).1 ∷ [] | false ↦ under_from f (node k).0 ++ under_from f (node k).1 ]

  unfoldable pub under_node : ℕ → List ℕ
  under_node k = under_from node_count k

  -- the box of a node, "taken from the holes under" it
  abbrev pub boxed : ℕ → Box
  boxed k = box_at v.holes (under_node k)

  -- "each pair names two nodes below 2n - 1 that are separated"
  unfoldable pub pair_ok : ℕ × ℕ → Bool
  pair_ok p = ltb p.0 node_count && ltb p.1 node_count && separated v.a v.b (boxed p.0) (boxed p.1)

  pub record PairRule (p : ℕ × ℕ) : Type 0 where
    pub left : p.0 < node_count
    pub right : p.1 < node_count
    pub far : Separated v.a v.b (boxed p.0) (boxed p.1)

  -- the pair has one of the two holes under one side and the other under the other
  unfoldable pub covers : ℕ × ℕ → ℕ × ℕ → Bool
  covers q p =
      has q.0 (under_node p.0) && has q.1 (under_node p.1)
      || has q.1 (under_node p.0) && has q.0 (under_node p.1)

  -- "every two different holes p, q have exactly one pair with p under one side and q under the other"
  unfoldable pub covered_once : ℕ × ℕ → Bool
  covered_once q = eqb (count (covers q) v.pairs) 1

  -- the same as statements
  abbrev pub Under : ℕ → ℕ → Type 0
  Under h k = Memᴰ h (under_node k)

  abbrev pub Covers : ℕ → ℕ → ℕ × ℕ → Type 0
  Covers p q r = (Under p r.0 × Under q r.1) ⊎ (Under q r.0 × Under p r.1)

  pub record OnePair (p q : ℕ) : Type 0 where
    pub which : ℕ
    pub listed : which < pair_count
    pub covers : Covers p q (pair which)
    pub only : (k : ℕ) → k < pair_count → Covers p q (pair k) → k ≡ which

-- all the record rules of document 01, as statements
pub record Record (r : List ℕ) : Type 0 where
  pub ratio : Ratio (view_of r).a (view_of r).b
  pub some : 1 ≤ holes_in r
  pub few : holes_in r ≤ most_holes
  pub nodes_right : nodes_in r ≡ nodes_of (holes_in r)
  pub pairs_right : pairs_in r ≤ holes_in r * (holes_in r - 1) / 2
  pub end : length r ≡ whole (holes_in r) (pairs_in r)
  pub distinct : (i j : ℕ) → i < j → j < holes_in r → hole (view_of r).holes i ≢ hole (view_of r).holes j
  pub nodes : (k : ℕ) → k < nodes_of (holes_in r) → NodeRule (view_of r) k
  pub pairs : (k : ℕ) → k < pairs_in r → PairRule (view_of r) (pair (view_of r) k)
  pub covered : (p q : ℕ) → p < holes_in r → q < holes_in r → p ≢ q → OnePair (view_of r) p q

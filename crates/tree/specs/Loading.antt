-- Loading node by node: when a node may be taken, what taking it leaves on the slate, and how far a record's nodes are loaded. Assumes nothing.
use Rattle.std.specs.Prelude.{◌≡◌, ◌↔◌, ◌≢◌, Bool, true, false, List, ℕ, ◌+◌, ◌*◌, ◌<◌, ◌≤◌, length}
use Rattle.words.specs.Area.{word}
use Rattle.slate.specs.Columns.{FIRST, SECOND, MARKS, SCRATCH}
use Rattle.slate.specs.Slate.{cell, Grid}
use Rattle.paper.specs.Record.{View, leaf_mark, nodes_of}
use Rattle.paper.specs.Rules.{hole_count, node_count, node, Leaf, Names, NodeRule}
use Rattle.tree.specs.Standing.{tree_in}

-- a step's answer: it is taken where P holds, and then Q does, and is refused where P does not
pub record Tries (P Q : Type 0) (old new : List ℕ) (r : Bool) : Type 0 where
  pub len : length new ≡ length old
  pub holds : r ≡ true → P
  pub taken : r ≡ true → Q
  pub refused : r ≡ false → P → ⊥

-- node k of a tree of n holes has a row on the slate
pub record NodeRow (w : List ℕ) (n k : ℕ) : Type 0 where
  pub grid : Grid w
  pub few : n ≤ 1_024
  pub node : k < nodes_of n

-- a leaf may name the hole h: it is below n and has no mark
pub record Holdable (w : List ℕ) (n h : ℕ) : Type 0 where
  pub hole : h < n
  pub new : cell w SCRATCH h ≡ 0

-- node k may name the node c: it is above k and below 2n - 1, and has no mark
pub record Nameable (w : List ℕ) (n k c : ℕ) : Type 0 where
  pub above : k < c
  pub node : c < nodes_of n
  pub new : cell w MARKS c ≡ 0

pub record BothNameable (w : List ℕ) (n k one two : ℕ) : Type 0 where
  pub different : one ≢ two
  pub first : Nameable w n k one
  pub second : Nameable w n k two

-- the two numbers of node k are on the slate; every other word is as it was
pub record NodePut (old new : List ℕ) (k one two : ℕ) : Type 0 where
  pub len : length new ≡ length old
  pub first : cell new FIRST k ≡ one
  pub second : cell new SECOND k ≡ two
  pub rest : (i : ℕ) → (i ≡ 2_048 * FIRST + k → ⊥) → (i ≡ 2_048 * SECOND + k → ⊥) → word new i ≡ word old i

-- the same, and cells a and b of column m have marks
pub record Marked (old new : List ℕ) (k one two m a b : ℕ) : Type 0 where
  pub first : cell new FIRST k ≡ one
  pub second : cell new SECOND k ≡ two
  pub mark_a : cell new m a ≡ 1
  pub mark_b : cell new m b ≡ 1
  pub rest : (i : ℕ) → (i ≡ 2_048 * FIRST + k → ⊥) → (i ≡ 2_048 * SECOND + k → ⊥) → (i ≡ 2_048 * m + a → ⊥) → (i ≡ 2_048 * m + b → ⊥)
      → word new i ≡ word old i

-- leaf j names the hole h
abbrev pub Holds : View → ℕ → ℕ → Type 0
Holds v j h = Leaf v j × ((node v j).1 ≡ h)

-- the nodes below k meet their rules and are on the slate; a node, and a hole, has no mark exactly where none of them names it
pub record LoadedTo (v : View) (k : ℕ) (w : List ℕ) : Type 0 where
  pub rules : (j : ℕ) → j < k → NodeRule v j
  pub nodes : (j : ℕ) → j < k → node v j ≡ (cell w FIRST j, cell w SECOND j)
  pub marks : (c : ℕ) → c < node_count v → cell w MARKS c ≡ 0 ↔ ((j : ℕ) → j < k → Names v j c → ⊥)
  pub holes : (h : ℕ) → h < hole_count v → cell w SCRATCH h ≡ 0 ↔ ((j : ℕ) → j < k → Holds v j h → ⊥)

-- node k is the next to be loaded
pub record Next (ns : List ℕ) (n k : ℕ) (w : List ℕ) : Type 0 where
  pub row : NodeRow w n k
  pub all : 4 * nodes_of n ≤ length ns
  pub loaded : LoadedTo (tree_in ns n) k w

-- taking node k: a leaf that names the hole h, a node that names two nodes, and whichever the record has
abbrev pub LeafTried : ℕ → ℕ → ℕ → List ℕ → List ℕ → Bool → Type 0
LeafTried n k h old new r = Tries (Holdable old n h) (Marked old new k leaf_mark h SCRATCH h h) old new r

abbrev pub ForkTried : ℕ → ℕ → ℕ → ℕ → List ℕ → List ℕ → Bool → Type 0
ForkTried n k one two old new r = Tries (BothNameable old n k one two) (Marked old new k one two MARKS one two) old new r

abbrev pub NodeTried : List ℕ → ℕ → ℕ → List ℕ → List ℕ → Bool → Type 0
NodeTried ns n k old new r = Tries (NodeRule (tree_in ns n) k) (LoadedTo (tree_in ns n) (k + 1) new) old new r
